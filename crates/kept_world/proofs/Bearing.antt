-- Births stay at most the number of the last event.
use Rattle.std.proofs.Common.{◌≡◌, ℕ, ◌+◌, ◌≤◌, ℤ, Bool, true, false, cond, not, List, [], ◌∷◌, Option, Some, None, MatchOption, map, filter, sym, subst, arith, int_lt}
use Rattle.std.specs.Prelude.{if◌then◌else◌}
use Rattle.std.specs.List.{AllByRecursion}
use Rattle.labels.specs.Labels.{Labels}
use Rattle.labels.specs.Contents.{in_range}
use Rattle.labels.specs.Parts.{Part}
use Rattle.matchers.specs.Satisfies.{satisfies_all}
use Rattle.kept_walk.specs.Kept.{Event, Series, batch, deletion, cut}
use Rattle.kept_world.specs.States.{Born, HeadSeries, State, stepped, deleted, raised, with_block, with_blocks, rows_below, struck_series, rest_of, stays}
use Rattle.kept_world.specs.Births.{IsBornBy, AreBornBy}
use Rattle.kept_world.specs.Sound.{first_head, IsSoundHead}
use Rattle.kept_world.proofs.Growing.{batch-accepts, later}

all-filter : {A : Type 0} (P : A → Type 0) (p : A → Bool) (xs : List A) → AllByRecursion P xs → AllByRecursion P (filter p xs)
all-filter P p [] h = tt
all-filter P p (x ∷ xs) h =
    let rest = all-filter P p xs h.1 in
    elim (p x) as (λ b. AllByRecursion P (cond b (x ∷ filter p xs) (filter p xs))) [ true ↦ (h.0, rest) | false ↦ rest ]

born-filter : (n : ℕ) (p : Born → Bool) (e : HeadSeries) → IsBornBy n e → IsBornBy n (record e { samples = filter p e.samples })
born-filter n p e h = record { series = h.series; samples = all-filter (λ (k : Born). k.0 ≤ n) p e.samples h.samples }

born_struck : (n : ℕ) (sat : Labels → Bool) (a b : ℤ) (head : List HeadSeries) → AreBornBy n head → AreBornBy n (map (struck_series sat a b) head)
born_struck n sat a b [] h = tt
born_struck n sat a b (e ∷ es) h = (one, born_struck n sat a b es h.1)
  where
    one : IsBornBy n (struck_series sat a b e)
    one = elim (sat e.labels) as (λ c. IsBornBy n (if c then record e { samples = filter (λ (k : Born). not (in_range a b k.1.0)) e.samples } else e)) [
      | true ↦ born-filter n (λ (k : Born). not (in_range a b k.1.0)) e h.0
      | false ↦ h.0
    ]

born_rest : (n : ℕ) (t : ℤ) (head : List HeadSeries) → AreBornBy n head → AreBornBy n (map (rest_of t) head)
born_rest n t [] h = tt
born_rest n t (e ∷ es) h = (born-filter n (λ (k : Born). not (int_lt k.1.0 t)) e h.0, born_rest n t es h.1)

born_cut : (t : ℤ) (s u : State) (r : Option (List Part)) → AreBornBy (s.number + 1) s.head → with_blocks (raised t s) r ≡ Some u → AreBornBy u.number u.head
born_cut t s u None h e = cc
born_cut t s u (Some blocks) h e =
    let q : record (raised t s) { blocks = blocks } ≡ u = cc in
    subst (λ (z : State). AreBornBy z.number z.head) q (born_rest (s.number + 1) t (filter (stays t) s.head) (all-filter (IsBornBy (s.number + 1)) (stays t) s.head h))

pub born_next : (s u : State) (e : Event) → AreBornBy s.number s.head → stepped s e ≡ Some u → AreBornBy u.number u.head
born_next s u (batch runs) h k =
    let w = batch-accepts s u runs k in
    subst (λ n. AreBornBy n u.head) (sym w.number) (w.head.born (later s.number (s.number + 1) s.head (omega arith) h))
born_next s u (deletion ms a b) h k =
    let q : deleted (satisfies_all ms) a b s ≡ u = cc in
    subst (λ (z : State). AreBornBy z.number z.head) q (born_struck (s.number + 1) (satisfies_all ms) a b s.head (later s.number (s.number + 1) s.head (omega arith) h))
born_next s u (cut t) h k =
    elim (int_lt s.floor t) as (λ c. (if c then with_blocks (raised t s) (with_block (rows_below t [] s.head) s.blocks) else None) ≡ Some u → AreBornBy u.number u.head) [
      | true ↦ λ q. born_cut t s u (with_block (rows_below t [] s.head) s.blocks) (later s.number (s.number + 1) s.head (omega arith) h) q
      | false ↦ λ q. cc
    ] k

first_born : (ss : List (ℤ × ℤ)) → AllByRecursion (λ (k : Born). k.0 ≤ 0) (map (λ (s : ℤ × ℤ). (0, s)) ss)
first_born [] = tt
first_born (s ∷ ss) = (omega arith, first_born ss)

-- a head record's births are before all events
pub born_first : (head : List Series) → AreBornBy 0 (first_head head)
born_first [] = tt
born_first (e ∷ es) = (record { series = omega arith; samples = first_born e.samples }, born_first es)

pub born_found : (kept : List Series) (found : Option (List HeadSeries)) (head : List HeadSeries) → MatchOption found (IsSoundHead kept → ⊥) (λ made. IsSoundHead kept × (made ≡ first_head kept)) → found ≡ Some head → AreBornBy 0 head
born_found kept found head h is =
    let w : IsSoundHead kept × (head ≡ first_head kept) =
    subst (λ (o : Option (List HeadSeries)). MatchOption o (IsSoundHead kept → ⊥) (λ made. IsSoundHead kept × (made ≡ first_head kept))) is h in
    subst (AreBornBy 0) (sym w.1) (born_first kept)
