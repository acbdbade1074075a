-- Which of the deletions cover a time, where they stand in the order of their references.
use Rattle.std.proofs.Common.{◌≡◌, ℕ, ◌<◌, ◌≤◌, Bool, true, false, ◌&&◌, eqb, List, ◌∷◌, length}
use Rattle.std.proofs.Common.{get_or, sym, ap, subst, ◌∙◌, inl, inr, arith}
use Rattle.std.specs.Prelude.{ℤ}
use Rattle.std.specs.List.Sorted.{IsNonDecreasingBy, IsPermutation}
use Rattle.std.proofs.lemmas.Bool.{cases_eq, cases_lt, eq-eqb, ne_eqb}
use Rattle.std.proofs.lemmas.List.{get_or_default}
use Rattle.std.proofs.lemmas.List.Folds.{list_any_at, list_any_none}
use Rattle.std.proofs.lemmas.List.Sorted.{list_any-IsPermutation, IsPermutation-insert}
use Rattle.std.specs.List.{insert}
use Rattle.tombstones.specs.declared.deletion.Deletion.{Deletion}
use Rattle.tombstones.specs.Covering.{holds, deletes, covered, has_deletion}

pub other_series : (reference : ℕ) (t : ℤ) (d : Deletion) → (d.reference ≡ reference → ⊥)
    → deletes reference t d ≡ false
other_series reference t d h = ap (λ (b : Bool). b && holds d t) (ne_eqb d.reference reference h)

abbrev pub deletion : ℕ → ℤ → ℤ → Deletion
deletion reference from to = record { reference = reference; from = from; to = to }

later : (deletions : List Deletion) (k reference : ℕ) (d : Deletion)
    → IsNonDecreasingBy (λ (x : Deletion). x.reference) deletions → k < length deletions
    → ((j : ℕ) (e : Deletion) → k ≤ j → j < length deletions
    → reference ≤ (get_or deletions j e).reference)
    → ((get_or deletions k d).reference ≡ reference → ⊥)
    → (j : ℕ) (e : Deletion) → k ≤ j → j < length deletions
    → reference < (get_or deletions j e).reference
later deletions k reference d sorted lt above other j e le inside =
    let here : (get_or deletions k d).reference ≡ (get_or deletions k e).reference =
    ap (λ (x : Deletion). x.reference) (get_or_default deletions k d e lt) in
    let at_least = above k d (omega arith) lt in
    let up = sorted k j e le inside in
    elim (cases_eq (get_or deletions k d).reference reference)
    [ inl same ↦ absurd (other same) | inr apart ↦ omega (arith, here, at_least, up, apart) ]

pub same_deletion : (r s : ℕ) (a b x y : ℤ) → r ≡ s → a ≡ x → b ≡ y
    → deletion r a b ≡ deletion s x y
same_deletion r s a b x y e f g =
    ap (λ (n : ℕ). deletion n a b) e
    ∙ (ap (λ (z : ℤ). deletion s z b) f ∙ ap (λ (z : ℤ). deletion s x z) g)

-- what an insert adds; `kept` is how the list stood, as the fields and as the value
pub added : (kept old new : List Deletion) (place : ℕ) (d e : Deletion) → d ≡ e → kept ≡ old
    → new ≡ insert kept place d → IsPermutation (e ∷ old) new
added kept old new place d e same view made =
    subst (λ (x : Deletion). IsPermutation (x ∷ old) new) same
    (subst (λ (xs : List Deletion). IsPermutation (d ∷ xs) new) view
    (subst (IsPermutation (d ∷ kept)) (sym made) (IsPermutation-insert kept place d)))

pub covered_all : (deletions held : List Deletion) (reference : ℕ) (t : ℤ)
    → IsPermutation deletions held → covered held reference t ≡ covered deletions reference t
covered_all deletions held reference t p =
    sym (list_any-IsPermutation (deletes reference t) deletions held p)

-- whether a deletion of the series is held, by the first place that is not below it
pub has_none : (deletions : List Deletion) (k reference : ℕ)
    → ((j : ℕ) (d : Deletion) → j < k → (get_or deletions j d).reference < reference)
    → ((j : ℕ) (d : Deletion) → k ≤ j → j < length deletions
    → reference < (get_or deletions j d).reference) → false ≡ has_deletion deletions reference
has_none deletions k reference below past =
    sym (list_any_none (λ (d : Deletion). eqb d.reference reference) deletions (λ j d lt.
    ne_eqb _ reference (λ e. elim (cases_lt j k) [
      | inl l ↦ omega (arith, e, below j d l)
      | inr g ↦ omega (arith, e, past j d g lt)
    ])))

pub has_at : (deletions : List Deletion) (k reference : ℕ) (d : Deletion)
    → IsNonDecreasingBy (λ (x : Deletion). x.reference) deletions → k < length deletions
    → ((j : ℕ) (e : Deletion) → j < k → (get_or deletions j e).reference < reference)
    → ((j : ℕ) (e : Deletion) → k ≤ j → j < length deletions
    → reference ≤ (get_or deletions j e).reference)
    → eqb (get_or deletions k d).reference reference ≡ has_deletion deletions reference
has_at deletions k reference d sorted lt below above =
    elim (cases_eq (get_or deletions k d).reference reference) [
      | inl same ↦
          (let b : eqb (get_or deletions k d).reference reference ≡ true = eq-eqb _ _ same in
          b ∙ sym (list_any_at (λ (x : Deletion). eqb x.reference reference) deletions k d lt b))
      | inr apart ↦
          ne_eqb _ reference apart
          ∙ has_none deletions k reference below
          (later deletions k reference d sorted lt above apart)
    ]
