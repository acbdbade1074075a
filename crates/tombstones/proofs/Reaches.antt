-- How far deletions in order reach.
use Rattle.std.proofs.Common.{◌≡◌, ℕ, zero, suc, ℤ, pos, ◌+◌, ◌-◌, ◌<◌, ◌≤◌, ◌≤ℤ◌, Bool, true}
use Rattle.std.proofs.Common.{false, ◌&&◌, ◌||◌, eqb, List, [], ◌∷◌, ◌++◌, length, take, drop}
use Rattle.std.proofs.Common.{get_or, refl, sym, ap, subst, ◌∙◌, inl, inr, arith}
use Rattle.std.specs.Prelude.{int_le}
use Rattle.std.specs.Int.{int_max}
use Rattle.std.specs.List.{insert}
use Rattle.std.proofs.Math.ListN.{set}
use Rattle.std.proofs.Math.Seq.{take-append_seam}
use Rattle.std.proofs.lemmas.Bool.{cases_eq, eq-eqb, ne_eqb}
use Rattle.std.proofs.lemmas.Int.{ints, clamps}
use Rattle.std.proofs.lemmas.List.{get_or_append_left, get_or_default, get_or-set_same}
use Rattle.std.proofs.lemmas.List.{get_or-set_other}
use Rattle.std.proofs.lemmas.List.Edits.{get_or-insert_below}
use Rattle.std.proofs.lemmas.List.Folds.{list_any_more}
use Rattle.tombstones.specs.declared.deletion.Deletion.{Deletion}
use Rattle.tombstones.specs.Covering.{covered, deletes, holds}
use Rattle.tombstones.specs.Order.{AreInOrder, AreReaches, IsOrdered, IsReach, begins_by}
use Rattle.tombstones.specs.Order.{deletion_at}
use Rattle.tombstones.proofs.Begun.{IsUpTo, begun, by_reference, le_true, not_yet, true_le, up_to}
use Rattle.tombstones.proofs.Covers.{other_series}

-- none before this place is of the series
none_taken : (deletions : List Deletion) (k reference : ℕ) (t : ℤ) → ((j : ℕ) (d : Deletion) → j < k
    → j < length deletions → (get_or deletions j d).reference < reference)
    → covered (take k deletions) reference t ≡ false
none_taken [] zero reference t below = refl
none_taken [] (suc k) reference t below = refl
none_taken (x ∷ deletions) zero reference t below = refl
none_taken (x ∷ deletions) (suc k) reference t below =
    let first : deletes reference t x ≡ false =
    other_series reference t x (λ e. omega (arith, e, below 0 x (omega arith) (omega arith))) in
    ap (λ (b : Bool). b || covered (take k deletions) reference t) first
    ∙ none_taken deletions k reference t (λ j d l m. below (suc j) d (omega arith) (omega arith))

-- those that begin later cover nothing
none_later : (deletions : List Deletion) (reference : ℕ) (t : ℤ) → ((j : ℕ) (d : Deletion)
    → j < length deletions → begins_by reference t (get_or deletions j d) ≡ false)
    → covered deletions reference t ≡ false
none_later [] reference t after = refl
none_later (x ∷ deletions) reference t after =
    ap (λ (b : Bool). b || covered deletions reference t)
    (not_yet reference t x (after 0 x (omega arith)))
    ∙ none_later deletions reference t (λ j d l. after (suc j) d (omega arith))

taken : (deletions : List Deletion) (k reference : ℕ) (t : ℤ) → ((j : ℕ) (d : Deletion) → k ≤ j
    → j < length deletions → begins_by reference t (get_or deletions j d) ≡ false)
    → covered deletions reference t ≡ covered (take k deletions) reference t
taken [] zero reference t after = refl
taken [] (suc k) reference t after = refl
taken (x ∷ deletions) zero reference t after =
    none_later (x ∷ deletions) reference t (λ j d l. after j d (omega arith) l)
taken (x ∷ deletions) (suc k) reference t after =
    ap (λ (b : Bool). deletes reference t x || b)
    (taken deletions k reference t (λ j d l m. after (suc j) d (omega arith) (omega arith)))

-- the deletions up to a place, by those before it
one_more : (deletions : List Deletion) (k : ℕ) (t : ℤ) → k < length deletions
    → int_le (deletion_at deletions k).from t ≡ true
    → covered (take (k + 1) deletions) (deletion_at deletions k).reference t
    ≡ (covered (take k deletions) (deletion_at deletions k).reference t
    || int_le t (deletion_at deletions k).to)
one_more deletions k t lt begins =
    let e = deletion_at deletions k in
    list_any_more (deletes e.reference t) deletions k _ lt
    ∙ ap (λ (b : Bool). covered (take k deletions) e.reference t || (b && holds e t))
    (eq-eqb e.reference e.reference refl)
    ∙ ap (λ (b : Bool). covered (take k deletions) e.reference t || (b && int_le t e.to)) begins

abbrev nothing : Deletion
nothing = record { reference = 0; from = pos 0; to = pos 0 }

-- none before the first of a series is of it
earlier : (deletions : List Deletion) (k : ℕ) → AreInOrder deletions → k < length deletions
    → ((j : ℕ) → j + 1 ≡ k
    → (deletion_at deletions j).reference ≡ (deletion_at deletions k).reference → ⊥)
    → (j : ℕ) (d : Deletion) → j < k → j < length deletions
    → (get_or deletions j d).reference < (deletion_at deletions k).reference
earlier deletions k sorted lt first j d l m =
    let here : (get_or deletions j d).reference ≡ (deletion_at deletions j).reference =
    ap (λ (x : Deletion). x.reference) (get_or_default deletions j d nothing m) in
    let up = by_reference deletions sorted j (k - 1) nothing (omega arith) (omega arith) in
    let more = by_reference deletions sorted (k - 1) k nothing (omega arith) lt in
    omega (arith, here, up, more, first (k - 1) (omega arith))

-- the first of a series
pub first_reach : (deletions : List Deletion) (k : ℕ) → AreInOrder deletions → k < length deletions
    → ((j : ℕ) → j + 1 ≡ k
    → (deletion_at deletions j).reference ≡ (deletion_at deletions k).reference → ⊥)
    → IsReach deletions k (deletion_at deletions k).to
first_reach deletions k sorted lt first t begins =
    one_more deletions k t lt begins
    ∙ ap (λ (b : Bool). b || int_le t (deletion_at deletions k).to) (none_taken deletions k
    (deletion_at deletions k).reference t (earlier deletions k sorted lt first))

either_end : (t a b : ℤ) → (int_le t a || int_le t b) ≡ int_le t (int_max b a)
either_end t a b = grind (arith, ints, clamps)

begins_too : (deletions : List Deletion) (j k : ℕ) (t : ℤ) → AreInOrder deletions
    → k < length deletions → j + 1 ≡ k
    → (deletion_at deletions j).reference ≡ (deletion_at deletions k).reference
    → int_le (deletion_at deletions k).from t ≡ true
    → int_le (deletion_at deletions j).from t ≡ true
begins_too deletions j k t sorted lt at same begins =
    elim (up_to deletions j k nothing sorted (omega arith) lt) [
      | inl l ↦ absurd (omega (arith, l, same))
      | inr e ↦
          (let v : (deletion_at deletions k).from ≤ℤ t = le_true _ _ begins in
          true_le (deletion_at deletions j).from t (omega (arith, ints, e.1, v)))
    ]

-- a later one
pub next_reach : (deletions : List Deletion) (j k : ℕ) (reach : ℤ) → AreInOrder deletions
    → k < length deletions → j + 1 ≡ k
    → (deletion_at deletions j).reference ≡ (deletion_at deletions k).reference
    → IsReach deletions j reach
    → IsReach deletions k (int_max (deletion_at deletions k).to reach)
next_reach deletions j k reach sorted lt at same before t begins =
    let so_far : covered (take k deletions) (deletion_at deletions k).reference t ≡ int_le t reach =
    ap (λ (n : ℕ). covered (take n deletions) (deletion_at deletions k).reference t) (sym at)
    ∙ ap (λ (r : ℕ). covered (take (j + 1) deletions) r t) (sym same)
    ∙ before t (begins_too deletions j k t sorted lt at same begins) in
    one_more deletions k t lt begins
    ∙ ap (λ (b : Bool). b || int_le t (deletion_at deletions k).to) so_far
    ∙ either_end t reach (deletion_at deletions k).to

-- one more reach is set
pub reaches_more : (deletions : List Deletion) (reaches : List ℤ) (at : ℕ) (reach : ℤ)
    → at < length reaches → AreReaches at deletions reaches → IsReach deletions at reach
    → AreReaches (at + 1) deletions (set reaches at reach)
reaches_more deletions reaches at reach lt before here k l = elim (cases_eq k at) [
  | inl same ↦
      subst (IsReach deletions k) (sym (ap (λ (n : ℕ). get_or (set reaches at reach) n (pos 0)) same
      ∙ get_or-set_same reaches at reach (pos 0) lt))
      (subst (λ (n : ℕ). IsReach deletions n reach) (sym same) here)
  | inr apart ↦
      subst (IsReach deletions k) (sym (get_or-set_other reaches at k reach (pos 0) apart))
      (before k (omega (arith, apart)))
]

take_insert : (deletions : List Deletion) (place : ℕ) (e : Deletion) (k : ℕ) → k ≤ place
    → place ≤ length deletions → take k (insert deletions place e) ≡ take k deletions
take_insert deletions place e zero le within = refl
take_insert deletions zero e (suc k) le within = absurd (omega arith)
take_insert [] (suc place) e (suc k) le within = absurd (omega arith)
take_insert (x ∷ deletions) (suc place) e (suc k) le within =
    ap (λ (ds : List Deletion). x ∷ ds)
    (take_insert deletions place e k (omega arith) (omega arith))

-- what a deletion at a place leaves of the reaches before it
pub reaches_before : (deletions : List Deletion) (reaches : List ℤ) (place : ℕ) (e : Deletion)
    (to : ℤ) → place ≤ length deletions → length reaches ≡ length deletions
    → AreReaches (length deletions) deletions reaches
    → AreReaches place (insert deletions place e) (reaches ++ to ∷ [])
reaches_before deletions reaches place e to within each all k l t begins =
    let same : deletion_at (insert deletions place e) k ≡ deletion_at deletions k =
    get_or-insert_below deletions place e nothing k l within in
    ap (λ (ds : List Deletion). covered ds (deletion_at (insert deletions place e) k).reference t)
    (take_insert deletions place e (k + 1) (omega arith) within)
    ∙ ap (λ (d : Deletion). covered (take (k + 1) deletions) d.reference t) same
    ∙ all k (omega arith) t (sym (ap (λ (d : Deletion). int_le d.from t) same) ∙ begins)
    ∙ ap (int_le t) (sym (get_or_append_left reaches (to ∷ []) (pos 0) k (omega arith)))

begins_then : (m n : ℕ) (x t : ℤ) → IsUpTo m x n t → m ≡ n → int_le x t ≡ true
begins_then m n x t (inl l) same = absurd (omega arith)
begins_then m n x t (inr e) same = true_le x t e.1

all_earlier : (deletions : List Deletion) (k reference : ℕ) (t : ℤ) → AreInOrder deletions
    → k < length deletions
    → IsUpTo (deletion_at deletions k).reference (deletion_at deletions k).from reference t
    → ((deletion_at deletions k).reference ≡ reference → ⊥)
    → (j : ℕ) (d : Deletion) → j ≤ k → (get_or deletions j d).reference < reference
all_earlier deletions k reference t sorted lt (inl l) apart j d le =
    let here : (get_or deletions k d).reference ≡ (deletion_at deletions k).reference =
    ap (λ (x : Deletion). x.reference) (get_or_default deletions k d nothing lt) in
    omega (arith, here, by_reference deletions sorted j k d le lt)
all_earlier deletions k reference t sorted lt (inr e) apart j d le = absurd (apart e.0)

-- whether a time is covered, by the last deletion that begins by it: that is of the series
pub decided : (deletions : List Deletion) (reaches : List ℤ) (count reference : ℕ) (t : ℤ)
    → IsOrdered deletions reaches → 0 < count → count ≤ length deletions
    → ((k : ℕ) (d : Deletion) → k < count → begins_by reference t (get_or deletions k d) ≡ true)
    → ((k : ℕ) (d : Deletion) → count ≤ k → k < length deletions
    → begins_by reference t (get_or deletions k d) ≡ false)
    → (deletion_at deletions (count - 1)).reference ≡ reference
    → int_le t (get_or reaches (count - 1) (pos 0)) ≡ covered deletions reference t
decided deletions reaches count reference t held some within before after same =
    let at : count - 1 + 1 ≡ count = omega arith in
    sym (held.reach (count - 1) (omega arith) t (begins_then _ _ _ _ (begun reference t
    (deletion_at deletions (count - 1)) (before (count - 1) nothing (omega arith))) same))
    ∙ ap (λ (r : ℕ). covered (take (count - 1 + 1) deletions) r t) same
    ∙ ap (λ (n : ℕ). covered (take n deletions) reference t) at
    ∙ sym (taken deletions count reference t after)

-- or it is of an earlier one
pub none_of_it : (deletions : List Deletion) (reaches : List ℤ) (count reference : ℕ) (t : ℤ)
    → IsOrdered deletions reaches → 0 < count → count ≤ length deletions
    → ((k : ℕ) (d : Deletion) → k < count → begins_by reference t (get_or deletions k d) ≡ true)
    → ((k : ℕ) (d : Deletion) → count ≤ k → k < length deletions
    → begins_by reference t (get_or deletions k d) ≡ false)
    → ((deletion_at deletions (count - 1)).reference ≡ reference → ⊥)
    → eqb (deletion_at deletions (count - 1)).reference reference ≡ covered deletions reference t
none_of_it deletions reaches count reference t held some within before after apart =
    let last =
    begun reference t (deletion_at deletions (count - 1))
    (before (count - 1) nothing (omega arith)) in
    ne_eqb _ _ apart
    ∙ sym (taken deletions count reference t after
    ∙ none_taken deletions count reference t (λ j d l m. all_earlier deletions (count - 1) reference
    t held.in_order (omega arith) last apart j d (omega arith)))

pub undecided : (deletions : List Deletion) (reference : ℕ) (t : ℤ) → ((k : ℕ) (d : Deletion)
    → 0 ≤ k → k < length deletions → begins_by reference t (get_or deletions k d) ≡ false)
    → false ≡ covered deletions reference t
undecided deletions reference t after = sym (taken deletions 0 reference t after)

-- the same, of what a call made
pub kept_reaches : (deletions made : List Deletion) (reaches held : List ℤ) (place : ℕ)
    (e : Deletion) (to : ℤ) → IsOrdered deletions reaches → place ≤ length deletions
    → made ≡ insert deletions place e → held ≡ reaches ++ to ∷ [] → AreReaches place made held
kept_reaches deletions made reaches held place e to order within is grown =
    subst (λ (ds : List Deletion). AreReaches place ds held) (sym is)
    (subst (AreReaches place (insert deletions place e)) (sym grown)
    (reaches_before deletions reaches place e to within order.each order.reach))

written : (n : ℕ) (xs ys : List ℤ) → length xs ≡ n → take n (xs ++ drop (length xs) ys) ≡ xs
written n xs ys e =
    ap (λ (m : ℕ). take m (xs ++ drop (length xs) ys)) (sym e)
    ∙ take-append_seam xs (drop (length xs) ys)

-- what was written through a slice is what the list holds
pub ordered_by : (deletions seen : List Deletion) (n : ℕ) (reaches rest : List ℤ) → seen ≡ deletions
    → n ≡ length deletions → AreInOrder deletions → length reaches ≡ length seen
    → AreReaches (length seen) seen reaches
    → IsOrdered deletions (take n (reaches ++ drop (length reaches) rest))
ordered_by deletions seen n reaches rest same count sorted each all =
    let as_many : length reaches ≡ length deletions =
    each ∙ ap (λ (ds : List Deletion). length ds) same in
    subst (IsOrdered deletions) (sym (written n reaches rest (as_many ∙ sym count))) (record {
      in_order = sorted;
      each = as_many;
      reach = subst (λ (ds : List Deletion). AreReaches (length ds) ds reaches) same all;
    })
