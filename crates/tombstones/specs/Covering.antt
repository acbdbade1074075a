-- What deletions delete.
use Rattle.std.specs.Prelude.{◌≡◌, ℕ, ℤ, Bool, List, ◌==◌, ◌&&◌, ◌||◌, int_le}
use Rattle.std.specs.List.{list_any}
use Rattle.tombstones.specs.declared.deletion.Deletion.{Deletion}

-- whether a time lies in the closed interval
abbrev pub holds : Deletion → ℤ → Bool
holds d t = int_le d.from t && int_le t d.to

-- whether a deletion is of this series and holds the time
abbrev pub deletes : ℕ → ℤ → Deletion → Bool
deletes reference t d = d.reference == reference && holds d t

-- whether one of the deletions deletes a time of a series
abbrev pub covered : List Deletion → ℕ → ℤ → Bool
covered deletions reference t = list_any (deletes reference t) deletions

-- whether one of the deletions is of this series
abbrev pub has_deletion : List Deletion → ℕ → Bool
has_deletion deletions reference = list_any (λ (d : Deletion). d.reference == reference) deletions

-- the deletion of a closed interval of a series
abbrev pub interval : ℤ → ℤ → ℕ → Deletion
interval from to reference = record { reference = reference; from = from; to = to }

-- whether the time of a series lies in the closed interval and the series is one of these
abbrev pub are_covered : List ℕ → ℤ → ℤ → ℕ → ℤ → Bool
are_covered references from to r t =
    list_any (λ (x : ℕ). x == r) references && (int_le from t && int_le t to)

-- the new deletions cover what the old ones cover and what passes the test, and nothing else
abbrev pub CoversAlso : List Deletion → (ℕ → ℤ → Bool) → List Deletion → Type 0
CoversAlso old test new = (r : ℕ) (t : ℤ) → covered new r t ≡ (test r t || covered old r t)
