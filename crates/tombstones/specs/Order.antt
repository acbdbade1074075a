-- How deletions stand, so that one is found by halving.
use Rattle.std.specs.Prelude.{◌≡◌, ℕ, ℤ, pos, ◌+◌, ◌<◌, Bool, ◌||◌, ◌&&◌, ◌==◌, nat_lt, int_le}
use Rattle.std.specs.Prelude.{List, length, take, slice_index_or, true}
use Rattle.std.specs.List.Sorted.{IsSortedByKey}
use Rattle.std.specs.Ordering.{ordering_then, nat_cmp, int_cmp}
use Rattle.std.specs.declared.cmp.Ordering.{Ordering}
use Rattle.tombstones.specs.declared.deletion.Deletion.{Deletion}
use Rattle.tombstones.specs.Covering.{covered}

-- by the series, and within a series by where the interval begins
abbrev pub beginning : Deletion → ℕ × ℤ
beginning d = (d.reference, d.from)

abbrev pub beginning_cmp : ℕ × ℤ → ℕ × ℤ → Ordering
beginning_cmp x y = ordering_then (nat_cmp x.0 y.0) (int_cmp x.1 y.1)

abbrev pub AreInOrder : List Deletion → Type 0
AreInOrder deletions = IsSortedByKey beginning beginning_cmp deletions

-- whether a deletion is of a series before this one, or of this one and begins by this time
abbrev pub begins_by : ℕ → ℤ → Deletion → Bool
begins_by reference t d =
    nat_lt d.reference reference || (d.reference == reference && int_le d.from t)

abbrev pub deletion_at : List Deletion → ℕ → Deletion
deletion_at deletions k =
    slice_index_or deletions k (record { reference = 0; from = pos 0; to = pos 0 })

-- from where a deletion begins on, it and those before it cover of its series the times up to its
-- reach, and no others
abbrev pub IsReach : List Deletion → ℕ → ℤ → Type 0
IsReach deletions k reach = (t : ℤ) → int_le (deletion_at deletions k).from t ≡ true
    → covered (take (k + 1) deletions) (deletion_at deletions k).reference t ≡ int_le t reach

-- so for each of the first deletions
abbrev pub AreReaches : ℕ → List Deletion → List ℤ → Type 0
AreReaches n deletions reaches =
    (k : ℕ) → k < n → IsReach deletions k (slice_index_or reaches k (pos 0))

pub record IsOrdered (deletions : List Deletion) (reaches : List ℤ) : Type 0 where
  pub in_order : AreInOrder deletions
  pub each : length reaches ≡ length deletions
  pub reach : AreReaches (length deletions) deletions reaches
