-- Slots in parts.
use Rattle.std.specs.Prelude.{◌≡◌, ℕ, zero, ◌+◌, ◌≤◌, ◌<◌, List, [], ◌∷◌, ◌++◌, length, take, drop}
use Rattle.time_cuts.specs.declared.slot.Slot.{Slot}
use Rattle.time_cuts.specs.declared.slot.Limits.{Limits}

-- how many samples begin in slots
abbrev pub begun_in : List Slot → ℕ
begun_in [] = 0
begun_in (s ∷ slots) = s.begun + begun_in slots

-- the most samples that one series may have in slots
abbrev pub most_in : List Slot → ℕ
most_in [] = 0
most_in (s ∷ slots) = s.most + most_in slots

-- how many samples are carried into the first of slots
abbrev pub carried_into : List Slot → ℕ
carried_into [] = 0
carried_into (s ∷ slots) = s.carried

-- slots have no more samples than the limits let a part have, and no series has more than they let
-- one have
pub record IsWithin (limits : Limits) (slots : List Slot) : Type 0 where
  pub samples : carried_into slots + begun_in slots ≤ limits.samples
  pub series : most_in slots ≤ limits.series

-- laid end to end, parts of so many slots are these slots; each has one and is within the limits
abbrev pub AreParts : Limits → List Slot → List ℕ → Type 0
AreParts limits slots [] = slots ≡ []
AreParts limits slots (n ∷ counts) =
    (0 < n) × (n ≤ length slots) × IsWithin limits (take n slots)
    × AreParts limits (drop n slots) counts

-- some slot alone is beyond the limits
pub record HasSlotBeyond (limits : Limits) (slots : List Slot) : Type 0 where
  pub before : List Slot
  pub slot : Slot
  pub after : List Slot
  pub order : slots ≡ before ++ slot ∷ after
  pub beyond : IsWithin limits (slot ∷ []) → ⊥
