-- What a crash leaves of the events that are kept, and what a start finds of it.
use Rattle.std.specs.Prelude.{◌≡◌, ◌⊎◌, ◌≤◌, ℕ, List, ◌++◌, take, Ok}
use Rattle.head.specs.Worlds.{Event, World, replayed}

-- the world of these events: they are accepted, each after those before it
abbrev pub IsOfAll : World → List Event → World → Type 0
IsOfAll first events w = replayed first events ≡ Ok w

-- all events that were kept
abbrev pub AreAll : List Event → List Event → Type 0
AreAll events found = found ≡ events

-- all that were kept, and more
abbrev pub AreAllAndMore : List Event → List Event → Type 0
AreAllAndMore events found = (more : List Event) × (found ≡ events ++ more)

-- all that were kept, and the first few of some more
abbrev pub AreAllAndSome : List Event → List Event → List Event → Type 0
AreAllAndSome events more found = (few : ℕ) × (found ≡ events ++ take few more)

-- what is left stands for events that have P
abbrev pub StandsForSome : {L : Type 0} → (L → List Event → Type 0) → (List Event → Type 0) → L
    → Type 0
StandsForSome stands P left = (events : List Event) × stands left events × P events

-- a crash at any moment since old leaves what stands for events that have P
pub record LeavesEvents {K L : Type 0} (moment : K → ℕ) (left_since : K → ℕ → L → Type 0)
    (stands : L → List Event → Type 0) (old new : K) (P : List Event → Type 0) : Type 0 where
  pub later : moment old ≤ moment new
  pub each : (left : L) → left_since new (moment old) left → StandsForSome stands P left
  -- for a run that began earlier
  pub before : (t : ℕ) (left : L) → t ≤ moment old → left_since new t left
      → left_since old t left ⊎ StandsForSome stands P left

-- a start that finds this makes a world of it, and the world has P
abbrev pub FindsWorld : {L : Type 0} → (L → World → Type 0) → (World → Type 0) → L → Type 0
FindsWorld makes P left = (w : World) × makes left w × P w
