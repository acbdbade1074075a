-- The head after a prefix of a run of batches is what came by then.
use Rattle.std.specs.Prelude.{ℕ, ◌+◌, ◌≡◌, ◌≤◌, List, [], ◌∷◌, ◌++◌, Some, nat_le, map, filter}
use Rattle.std.specs.Prelude.{ℤ, length, take}
use Rattle.std.specs.List.{AllByRecursion}
use Rattle.labels.specs.Rows.{Row}
use Rattle.kept_walk.specs.Kept.{Event, batch}
use Rattle.kept_world.specs.States.{Born, HeadSeries, State, samples_of, state_after, shown}

-- the samples of a series that this event or an earlier one brought
abbrev pub came_row : ℕ → HeadSeries → Row
came_row p e = (e.labels, samples_of (filter (λ (k : Born). nat_le k.0 p) e.samples))

-- the series that this event or an earlier one brought, with such samples
abbrev pub came_by : ℕ → List HeadSeries → List Row
came_by p head = map (came_row p) (filter (λ (e : HeadSeries). nat_le e.born p) head)

-- no later event brought the series or one of its samples
pub record IsBornBy (n : ℕ) (e : HeadSeries) : Type 0 where
  pub series : e.born ≤ n
  pub samples : AllByRecursion (λ (k : Born). k.0 ≤ n) e.samples

abbrev pub AreBornBy : ℕ → List HeadSeries → Type 0
AreBornBy n head = AllByRecursion (IsBornBy n) head

abbrev pub batches : List (List Row) → List Event
batches bs = map batch bs

-- in a run of batches: there is a state after the first p of them; what came by then is its head,
-- and its blocks are the last state's
abbrev pub IsHeadAt : State → List (List Row) → State → ℕ → Type 0
IsHeadAt first bs last p =
    AreBornBy first.number first.head → state_after (batches bs) first ≡ Some last → p ≤ length bs →
    (s : State) × (state_after (batches (take p bs)) first ≡ Some s)
    × (came_by (first.number + p) last.head ≡ shown s.head) × (s.blocks ≡ last.blocks)

-- rows, and the same with samples and rows behind the last
abbrev pub IsPartOf : List Row → List Row → Type 0
IsPartOf [] ys = Unit {0}
IsPartOf (x ∷ xs) [] = ⊥
IsPartOf (x ∷ xs) (y ∷ ys) =
    (x.0 ≡ y.0) × ((more : List (ℤ × ℤ)) × (y.1 ≡ x.1 ++ more)) × IsPartOf xs ys

-- in a run of batches the head only grows, and the blocks do not change
abbrev pub OnlyGrows : State → List (List Row) → List (List Row) → Type 0
OnlyGrows first early late =
    (s : State) (t : State) → state_after (batches early) first ≡ Some s →
    state_after (batches (early ++ late)) first ≡ Some t →
    IsPartOf (shown s.head) (shown t.head) × (s.blocks ≡ t.blocks)
