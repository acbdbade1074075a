-- Deletions in order: by series, and within a series by where they begin.
use Rattle.std.proofs.Common.{◌≡◌, ℕ, ℤ, ◌+◌, ◌-◌, ◌<◌, ◌≤◌, ◌<ℤ◌, ◌≤ℤ◌, ◌⊎◌, Bool, true, false}
use Rattle.std.proofs.Common.{◌&&◌, ◌||◌, eqb, ltb, List, length, get_or, refl, sym, ap, subst, ◌∙◌}
use Rattle.std.proofs.Common.{inl, inr, arith}
use Rattle.std.specs.Prelude.{int_le}
use Rattle.std.specs.Ordering.{is_lt, ordering_then, nat_cmp, int_cmp, MatchOrdering}
use Rattle.std.specs.declared.cmp.Ordering.{Ordering}
use Rattle.std.specs.declared.cmp.Ordering.TheVariants.{Less, Equal, Greater}
use Rattle.std.specs.List.{insert}
use Rattle.std.specs.List.Sorted.{IsNonDecreasingBy, IsPartitionedBy}
use Rattle.std.proofs.lemmas.Bool.{cases_eq, eqb-true, ltb-true, ltb-false, lt-ltb, eq-eqb}
use Rattle.std.proofs.lemmas.Bool.{eqb-false, or_cases, or_right, and_from, and_parts, or_parts}
use Rattle.std.proofs.lemmas.Bool.{cases_Bool, cases_order}
use Rattle.std.proofs.lemmas.Int.{ints}
use Rattle.std.proofs.lemmas.Cmp.{ranked, int_ranked, nat_cmp_total, int_cmp_total, on_total}
use Rattle.std.proofs.lemmas.Cmp.{then_total}
use Rattle.std.proofs.lemmas.List.Edits.{get_or-insert_at, get_or-insert_above, get_or-insert_below}
use Rattle.std.proofs.lemmas.List.Edits.{length-insert}
use Rattle.std.proofs.lemmas.List.Sorted.{sorted_far, ranks_by}
use Rattle.tombstones.specs.declared.deletion.Deletion.{Deletion}
use Rattle.tombstones.specs.Covering.{deletes}
use Rattle.tombstones.specs.Order.{AreInOrder, beginning, beginning_cmp, begins_by}

-- one place of the order is at or before another
abbrev pub IsUpTo : ℕ → ℤ → ℕ → ℤ → Type 0
IsUpTo m x n y = (m < n) ⊎ ((m ≡ n) × (x ≤ℤ y))

not_before : (o p : Ordering) (m n : ℕ) (x y : ℤ) → MatchOrdering o (m < n) (m ≡ n) (n < m)
    → MatchOrdering p (x <ℤ y) (x ≡ y) (y <ℤ x) → is_lt (ordering_then o p) ≡ false → IsUpTo n y m x
not_before Less p m n x y h k e = absurd cc
not_before Equal Less m n x y h k e = absurd cc
not_before Equal Equal m n x y h k e = inr (sym h, omega (arith, ints, k))
not_before Equal Greater m n x y h k e = inr (sym h, omega (arith, ints, k))
not_before Greater p m n x y h k e = inl h

pub up_to : (deletions : List Deletion) (i j : ℕ) (d : Deletion) → AreInOrder deletions → i ≤ j
    → j < length deletions → IsUpTo (get_or deletions i d).reference (get_or deletions i d).from
    (get_or deletions j d).reference (get_or deletions j d).from
up_to deletions i j d sorted le lt =
    let e = get_or deletions i d in
    let f = get_or deletions j d in
    not_before (nat_cmp f.reference e.reference) (int_cmp f.from e.from) f.reference e.reference
    f.from e.from (ranked f.reference e.reference _ refl) (int_ranked f.from e.from _ refl)
    (sorted_far (λ (a b : Deletion). is_lt (beginning_cmp (beginning a) (beginning b)))
    (ranks_by (then_total (on_total (λ (p : ℕ × ℤ). p.0) nat_cmp_total)
    (on_total (λ (p : ℕ × ℤ). p.1) int_cmp_total)) beginning) deletions sorted i j d le lt)

pub by_reference : (deletions : List Deletion) → AreInOrder deletions
    → IsNonDecreasingBy (λ (d : Deletion). d.reference) deletions
by_reference deletions sorted i j d le lt = elim (up_to deletions i j d sorted le lt) [
  | inl l ↦ omega (arith, l)
  | inr e ↦ omega (arith, e.0)
]

pub le_true : (x y : ℤ) → int_le x y ≡ true → x ≤ℤ y
le_true x y h = grind (arith, ints)

le_false : (x y : ℤ) → int_le x y ≡ false → y <ℤ x
le_false x y h = grind (arith, ints)

pub true_le : (x y : ℤ) → x ≤ℤ y → int_le x y ≡ true
true_le x y h = grind (arith, ints)

false_le : (x y : ℤ) → y <ℤ x → int_le x y ≡ false
false_le x y h = grind (arith, ints)

pub begun : (r : ℕ) (t : ℤ) (d : Deletion) → begins_by r t d ≡ true → IsUpTo d.reference d.from r t
begun r t d h = elim (or_cases (ltb d.reference r) (eqb d.reference r && int_le d.from t) h) [
  | inl l ↦ inl (ltb-true _ _ l)
  | inr e ↦
      (let p = and_parts (eqb d.reference r) (int_le d.from t) e in
      inr (eqb-true _ _ p.0, le_true _ _ p.1))
]

pub is_begun : (r : ℕ) (t : ℤ) (d : Deletion) → IsUpTo d.reference d.from r t
    → begins_by r t d ≡ true
is_begun r t d (inl l) =
    ap (λ (b : Bool). b || (eqb d.reference r && int_le d.from t)) (lt-ltb _ _ l)
is_begun r t d (inr e) =
    or_right (ltb d.reference r) _
    (and_from (eqb d.reference r) (int_le d.from t) (eq-eqb _ _ e.0) (true_le _ _ e.1))

up_to_both : (m n r : ℕ) (x y t : ℤ) → IsUpTo m x n y → IsUpTo n y r t → IsUpTo m x r t
up_to_both m n r x y t (inl l) (inl k) = inl (omega arith)
up_to_both m n r x y t (inl l) (inr k) = inl (omega (arith, k.0))
up_to_both m n r x y t (inr l) (inl k) = inl (omega (arith, l.0))
up_to_both m n r x y t (inr l) (inr k) = inr (l.0 ∙ k.0, omega (arith, ints, l.1, k.1))

-- those that begin by a time of a series stand first
pub parted : (deletions : List Deletion) (r : ℕ) (t : ℤ) → AreInOrder deletions
    → IsPartitionedBy (begins_by r t) deletions
parted deletions r t sorted i j d le lt h =
    is_begun r t (get_or deletions i d) (up_to_both _ _ _ _ _ _ (up_to deletions i j d sorted le lt)
    (begun r t (get_or deletions j d) h))

-- what begins later
pub later_than : (r : ℕ) (t : ℤ) (d : Deletion) → begins_by r t d ≡ false
    → IsUpTo r t d.reference d.from
later_than r t d h =
    let p = or_parts (ltb d.reference r) (eqb d.reference r && int_le d.from t) h in
    elim (cases_Bool (eqb d.reference r)) [
      | inl same ↦
          (let q : int_le d.from t ≡ false = sym (ap (λ (b : Bool). b && int_le d.from t) same)
          ∙ p.1 in let e : d.reference ≡ r = eqb-true _ _ same in
          let f : t <ℤ d.from = le_false _ _ q in inr (sym e, omega (arith, ints, f)))
      | inr apart ↦
          (let le : r ≤ d.reference = ltb-false _ _ p.0 in
          inl (omega (arith, le, eqb-false d.reference r apart)))
    ]

and_first : (a b c : Bool) → (a && b) ≡ false → (a && (b && c)) ≡ false
and_first true true c h = absurd cc
and_first true false c h = refl
and_first false b c h = refl

-- it does not cover the time
pub not_yet : (r : ℕ) (t : ℤ) (d : Deletion) → begins_by r t d ≡ false → deletes r t d ≡ false
not_yet r t d h =
    and_first (eqb d.reference r) (int_le d.from t) (int_le t d.to)
    (or_parts (ltb d.reference r) (eqb d.reference r && int_le d.from t) h).1

-- neighbours in order
abbrev pub FollowsOn : Deletion → Deletion → Type 0
FollowsOn d e = is_lt (beginning_cmp (beginning e) (beginning d)) ≡ false

in_turn : (o p : Ordering) (m n : ℕ) (x y : ℤ) → MatchOrdering o (m < n) (m ≡ n) (n < m)
    → MatchOrdering p (x <ℤ y) (x ≡ y) (y <ℤ x) → IsUpTo n y m x → is_lt (ordering_then o p) ≡ false
in_turn Less p m n x y h k (inl l) = absurd (omega arith)
in_turn Less p m n x y h k (inr e) = absurd (omega (arith, e.0))
in_turn Equal Less m n x y h k (inl l) = absurd (omega arith)
in_turn Equal Less m n x y h k (inr e) = absurd (omega (arith, ints, k, e.1))
in_turn Equal Equal m n x y h k u = refl
in_turn Equal Greater m n x y h k u = refl
in_turn Greater p m n x y h k u = refl

pub follows_on : (d e : Deletion) → IsUpTo d.reference d.from e.reference e.from → FollowsOn d e
follows_on d e u =
    in_turn (nat_cmp e.reference d.reference) (int_cmp e.from d.from) e.reference d.reference e.from
    d.from (ranked e.reference d.reference _ refl) (int_ranked e.from d.from _ refl) u

same_neighbours : (d e f g : Deletion) → f ≡ d → g ≡ e → FollowsOn d e → FollowsOn f g
same_neighbours d e f g p q h = rw (p, q) h

between_later : (deletions : List Deletion) (place : ℕ) (e : Deletion) → AreInOrder deletions
    → place ≤ length deletions → (k : ℕ) (d : Deletion) (j : ℕ) → j + 1 ≡ k → place ≤ j
    → k < length deletions
    → get_or (insert deletions place e) (k + 1) d ≡ get_or deletions k d
    → FollowsOn (get_or (insert deletions place e) k d)
    (get_or (insert deletions place e) (k + 1) d)
between_later deletions place e sorted within k d j at le lt next =
    same_neighbours (get_or deletions j d) (get_or deletions (j + 1) d) _ _
    (ap (λ (n : ℕ). get_or (insert deletions place e) n d) (sym at)
    ∙ get_or-insert_above deletions place e d j le within) (next
    ∙ ap (λ (n : ℕ). get_or deletions n d) (sym at))
    (sorted j d (omega arith) (omega arith))

from_place : (deletions : List Deletion) (place : ℕ) (e : Deletion) → AreInOrder deletions
    → place ≤ length deletions → ((k : ℕ) (d : Deletion) → place ≤ k → k < length deletions
    → begins_by e.reference e.from (get_or deletions k d) ≡ false)
    → (k : ℕ) (d : Deletion) → place ≤ k → k < length deletions
    → FollowsOn (get_or (insert deletions place e) k d)
    (get_or (insert deletions place e) (k + 1) d)
from_place deletions place e sorted within after k d le lt =
    let next = get_or-insert_above deletions place e d k le within in
    elim (cases_eq k place) [
      | inl here ↦
          same_neighbours e (get_or deletions k d) _ _
          (ap (λ (n : ℕ). get_or (insert deletions place e) n d) here
          ∙ get_or-insert_at deletions place e d within) next
          (follows_on e (get_or deletions k d)
          (later_than e.reference e.from (get_or deletions k d) (after k d le lt)))
      | inr apart ↦ between_later deletions place e sorted within k d (k - 1) (omega (
        arith,
        apart,
      )) (omega (arith, apart)) lt next
    ]

-- a deletion goes where those before it begin by its beginning, and those after it do not
pub in_order_still : (deletions : List Deletion) (place : ℕ) (e : Deletion) → AreInOrder deletions
    → place ≤ length deletions
    → ((k : ℕ) (d : Deletion) → k < place
    → begins_by e.reference e.from (get_or deletions k d) ≡ true)
    → ((k : ℕ) (d : Deletion) → place ≤ k → k < length deletions
    → begins_by e.reference e.from (get_or deletions k d) ≡ false)
    → AreInOrder (insert deletions place e)
in_order_still deletions place e sorted within before after k d low lt =
    let long : k < length deletions = omega (arith, lt, length-insert deletions place e within) in
    elim (cases_order (k + 1) place) [
      | inl at ↦ (let here = get_or-insert_at deletions place e d within in
          same_neighbours (get_or deletions k d) e _ _ (get_or-insert_below deletions place e d k
          (omega arith) within) (ap (λ (n : ℕ). get_or (insert deletions place e) n d) at ∙ here)
          (follows_on (get_or deletions k d) e
          (begun e.reference e.from (get_or deletions k d) (before k d (omega arith)))))
      | inr (inl l) ↦
          same_neighbours (get_or deletions k d) (get_or deletions (k + 1) d) _ _
          (get_or-insert_below deletions place e d k (omega arith) within)
          (get_or-insert_below deletions place e d (k + 1) l within) (sorted k d low (omega arith))
      | inr (inr g) ↦ from_place deletions place e sorted within after k d (omega arith) long
    ]

-- the same, of what a call saw and made
pub in_order_by : (deletions seen made : List Deletion) (place : ℕ) (e : Deletion)
    → AreInOrder deletions → seen ≡ deletions → place ≤ length seen
    → ((k : ℕ) (d : Deletion) → k < place → begins_by e.reference e.from (get_or seen k d) ≡ true)
    → ((k : ℕ) (d : Deletion) → place ≤ k → k < length seen
    → begins_by e.reference e.from (get_or seen k d) ≡ false)
    → made ≡ insert deletions place e → AreInOrder made
in_order_by deletions seen made place e sorted same within before after is =
    subst AreInOrder (sym is) (subst (λ (ds : List Deletion). AreInOrder (insert ds place e)) same
    (in_order_still seen place e (subst AreInOrder (sym same) sorted) within before after))
