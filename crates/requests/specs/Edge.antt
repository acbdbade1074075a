-- What the outside is seen to do.
use Rattle.std.specs.Prelude.{◌≡◌, ◌<◌, ◌≤◌, ◌-◌, ◌^◌, ◌⊎◌, ◌++◌, ℕ, List, Option, length}
use Rattle.std.specs.Prelude.{codes}
use Rattle.std.specs.Io.KnownBytes.{Consumes}

-- a count of failed calls grew, or is the greatest `u64`
abbrev pub HasGrown : ℕ → ℕ → Type 0
HasGrown old new = (old < new) ⊎ (new ≡ 2 ^ 64 - 1)

-- bytes went from the front of the input to the end of the buffer
abbrev pub IsReadInto : Option (List ℕ) → Option (List ℕ) → List ℕ → List ℕ → Type 0
IsReadInto input rest before after =
    (bytes : List ℕ) × (after ≡ before ++ bytes) × Consumes input rest bytes

-- at most so many bytes went from the front of the input
abbrev pub TakesAtMost : ℕ → Option (List ℕ) → Option (List ℕ) → Type 0
TakesAtMost most input rest =
    (bytes : List ℕ) × Consumes input rest bytes × (length bytes ≤ most)

-- a failed call in a line, for people
abbrev pub fault_text : List ℕ
fault_text = codes "a read or a write failed"
