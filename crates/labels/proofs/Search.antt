-- A name is searched among names in order.
use Rattle.std.proofs.Common.{◌≡◌, ℕ, zero, suc, ◌+◌, ◌<◌, ◌≤◌, false, List, [], ◌∷◌, length, get_or, Some, refl, sym, ap, ◌∙◌, arith}
use Rattle.std.specs.Prelude.{slice_get}
use Rattle.std.specs.Ordering.{nat_cmp, ordering_index, ordering_reverse, is_eq, is_lt}
use Rattle.std.specs.Cmp.Lexicographic.{slice_cmp, texts_ties}
use Rattle.std.specs.Str.{bytes_eq}
use Rattle.std.specs.List.Sorted.{IsSortedBy}
use Rattle.std.specs.declared.cmp.Ordering.{Ordering}
use Rattle.std.specs.declared.cmp.Ordering.TheVariants.{Less, Equal, Greater}
use Rattle.std.proofs.lemmas.Cmp.{nat_list_cmp_total, alike_right}
use Rattle.std.proofs.lemmas.List.Sorted.{searchable_from_sorted}
use Rattle.labels.specs.Labels.{Labels, IsByName, value_of}

abbrev pub none : (List ℕ × List ℕ)
none = ([], [])

-- how a name lies to the name at a place: 0 before it, 1 there, 2 behind it
abbrev pub lies : Labels → List ℕ → ℕ → ℕ
lies ps name k = ordering_index (slice_cmp nat_cmp (get_or ps k none).0 name)

pub got : {X : Type 0} (xs : List X) (i : ℕ) (x d : X) → slice_get xs i ≡ Some x → get_or xs i d ≡ x
got [] i x d e = absurd cc
got (y ∷ xs) zero x d e = cc
got (y ∷ xs) (suc i) x d e = got xs i x d e

rises : (ps : Labels) (name : List ℕ) → IsByName ps → (i j : ℕ) → i ≤ j → j < length ps → lies ps name i ≤ lies ps name j
rises ps name by_name i j le lt =
    let sorted : IsSortedBy (λ a b. is_lt (slice_cmp nat_cmp a.0 b.0)) ps = λ k d _ l. ap is_lt (nat_list_cmp_total.antisymm (get_or ps (k + 1) d).0 (get_or ps k d).0 ∙ ap ordering_reverse (by_name k d l)) in
    searchable_from_sorted nat_list_cmp_total (λ (p : (List ℕ × List ℕ)). p.0) ps name sorted i j none le lt

index_le : (o : Ordering) → ordering_index o ≤ 2
index_le Less = omega arith
index_le Equal = omega arith
index_le Greater = omega arith

pub before : (ps : Labels) (name : List ℕ) (m : ℕ) → IsByName ps → m < length ps → slice_cmp nat_cmp (get_or ps m none).0 name ≡ Less → (k : ℕ) → k ≤ m → lies ps name k ≡ 0
before ps name m sorted lt e k le =
    let z : lies ps name m ≡ 0 = ap ordering_index e in
    omega (arith, rises ps name sorted k m le lt, z)

pub behind : (ps : Labels) (name : List ℕ) (m : ℕ) → IsByName ps → m < length ps → slice_cmp nat_cmp (get_or ps m none).0 name ≡ Greater → (k : ℕ) → m ≤ k → k < length ps → lies ps name k ≡ 2
behind ps name m sorted lt e k le inside =
    let z : lies ps name m ≡ 2 = ap ordering_index e in
    omega (arith, rises ps name sorted m k le inside, z, index_le (slice_cmp nat_cmp (get_or ps k none).0 name))

-- names before an equal one are smaller
less_by : (a b name : List ℕ) (o : Ordering) → slice_cmp nat_cmp a b ≡ Less → slice_cmp nat_cmp b name ≡ o → ordering_index o ≤ 1 → slice_cmp nat_cmp a name ≡ Less
less_by a b name Less h e le = nat_list_cmp_total.trans a b name h e
less_by a b name Equal h e le = sym (alike_right nat_list_cmp_total b name a e) ∙ h
less_by a b name Greater h e le = absurd (omega arith)

pub first_equal : (ps : Labels) (name : List ℕ) (i : ℕ) → IsByName ps → i < length ps → slice_cmp nat_cmp (get_or ps i none).0 name ≡ Equal → (k : ℕ) → k < i → slice_cmp nat_cmp (get_or ps k none).0 name ≡ Less
first_equal ps name i by_name lt e k l =
    let z : lies ps name i ≡ 1 = ap ordering_index e in
    less_by _ _ name (slice_cmp nat_cmp (get_or ps (k + 1) none).0 name) (by_name k none (omega arith)) refl (omega (arith, rises ps name by_name (k + 1) i (omega arith) lt, z))

-- two names are equal where they compare as equal
by_order : (a b : List ℕ) → bytes_eq a b ≡ is_eq (slice_cmp nat_cmp a b)
by_order a b = texts_ties a b

-- no name here
missing : (o : Ordering) → (o ≡ Equal → ⊥) → is_eq o ≡ false
missing Less h = refl
missing Equal h = absurd (h refl)
missing Greater h = refl

pub value_none : (ps : Labels) (name : List ℕ) → ((i : ℕ) → i < length ps → slice_cmp nat_cmp (get_or ps i none).0 name ≡ Equal → ⊥) → value_of ps name ≡ []
value_none [] name h = refl
value_none (p ∷ ps) name h = rw (by_order p.0 name, missing (slice_cmp nat_cmp p.0 name) (h 0 (omega arith))) (value_none ps name (λ i lt. h (suc i) (omega arith)))

-- the first of two equal names would be meant, but names are strictly in order: those before a name lie before it
pub value_found : (ps : Labels) (name : List ℕ) (i : ℕ) → i < length ps → ((k : ℕ) → k < i → slice_cmp nat_cmp (get_or ps k none).0 name ≡ Equal → ⊥) → slice_cmp nat_cmp (get_or ps i none).0 name ≡ Equal → value_of ps name ≡ (get_or ps i none).1
value_found [] name i lt first e = absurd (omega arith)
value_found (p ∷ ps) name zero lt first e = rw (by_order p.0 name, e) refl
value_found (p ∷ ps) name (suc i) lt first e = rw (by_order p.0 name, missing (slice_cmp nat_cmp p.0 name) (first 0 (omega arith))) (value_found ps name i (omega arith) (λ k l. first (suc k) (omega arith)) e)

pub value_at : (ps : Labels) (name : List ℕ) (i : ℕ) → IsByName ps → i < length ps → slice_cmp nat_cmp (get_or ps i none).0 name ≡ Equal → value_of ps name ≡ (get_or ps i none).1
value_at ps name i by_name lt e = value_found ps name i lt (λ k l q. let h : Less ≡ Equal = sym (first_equal ps name i by_name lt e k l) ∙ q in cc) e
