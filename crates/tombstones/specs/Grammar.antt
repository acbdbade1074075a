-- The bytes of a file of deletions, by what they spell.
use Rattle.std.specs.Prelude.{◌≡◌, ℕ, ℤ, ◌≤◌, ◌<◌, ◌^◌, Bool, true, ◌&&◌, List, ◌∷◌, ◌++◌, length}
use Rattle.std.specs.Prelude.{int_le}
use Rattle.std.specs.List.{flat_map, AllByRecursion}
use Rattle.std.specs.List.Sorted.{IsPermutation}
use Rattle.byteorder.specs.Endian.{big_bytes}
use Rattle.labels.specs.Contents.{is_time}
use Rattle.wire.specs.Spelling.{uvarint, varint}
use Rattle.wire.specs.Checksum.{crc32c}
use Rattle.tombstones.specs.declared.deletion.Deletion.{Deletion}

-- the series' reference, the first and the last time
abbrev pub entry_text : Deletion → List ℕ
entry_text d = uvarint d.reference ++ (varint d.from ++ varint d.to)

-- an interval is not empty, and both its ends are times
abbrev pub is_interval : ℤ → ℤ → Bool
is_interval from to = int_le from to && is_time from && is_time to

pub record IsDeletion (d : Deletion) : Type 0 where
  pub reference : d.reference < 2 ^ 32
  pub interval : is_interval d.from d.to ≡ true

abbrev pub entries_text : List Deletion → List ℕ
entries_text deletions = flat_map entry_text deletions

-- magic, version, the entries and their checksum
pub record IsTombstones (file : List ℕ) (deletions : List Deletion) : Type 0 where
  pub short : length file ≤ 0x4000_0000
  pub text : file ≡ 0x01 ∷ 0x30 ∷ 0xBA ∷ 0x30 ∷ 1
      ∷ (entries_text deletions ++ big_bytes 4 (crc32c (entries_text deletions)))
  pub sound : AllByRecursion IsDeletion deletions

-- the file spells exactly these deletions, in some order
abbrev pub SpellsAll : List ℕ → List Deletion → Type 0
SpellsAll file held =
    (deletions : List Deletion) × IsTombstones file deletions × IsPermutation deletions held
