-- Reading deletions from a file. Each check has its refusal, and the first that fails is answered.
use Rattle.std.specs.Prelude.{ℕ, zero, suc, ◌-◌, List, [], ◌∷◌, length, Result, Ok, Err, nat_lt}
use Rattle.std.specs.Prelude.{◌==◌, if◌then◌else◌}
use Rattle.wire.specs.Reading.{byte_at, bytes_at, number_at, uvarint_at, varint_at}
use Rattle.wire.specs.Checksum.{crc32c}
use Rattle.wire.specs.Outcome.{◌>>=◌, or_refused}
use Rattle.tombstones.specs.declared.deletion.Deletion.{Deletion}
use Rattle.tombstones.specs.declared.error.TombstoneError.{TombstoneError}
use Rattle.tombstones.specs.declared.error.TombstoneError.TheVariants.{Magic, Version, Crc, Shape}
use Rattle.tombstones.specs.Covering.{interval}
use Rattle.tombstones.specs.Grammar.{is_interval}

-- the entries of what stands after the head: all but the checksum in the last four bytes
unfoldable pub checked_at : List ℕ → Result (List ℕ) TombstoneError
checked_at after = do
  entries ← or_refused Shape (bytes_at (length after - 4) after)
  sum ← or_refused Shape (number_at 4 entries.1)
  if sum.0 == crc32c entries.0 then Ok entries.0 else Err Crc

-- the entries' bytes
unfoldable pub entries_of : List ℕ → Result (List ℕ) TombstoneError
entries_of file = do
  magic ← or_refused Magic (number_at 4 file)
  if magic.0 == 0x0130_BA30 then (do
    version ← or_refused Version (byte_at magic.1)
    if version.0 == 1 then
        (if nat_lt 0x4000_0000 (length file) then Err Shape else checked_at version.1)
        else Err Version)
      else Err Magic

-- the entry in front
unfoldable pub entry_at : List ℕ → Result (Deletion × List ℕ) TombstoneError
entry_at bytes = do
  reference ← or_refused Shape (uvarint_at bytes)
  from ← or_refused Shape (varint_at reference.1)
  to ← or_refused Shape (varint_at from.1)
  if nat_lt 0xFFFF_FFFF reference.0 then Err Shape
      else if is_interval from.0 to.0 then Ok (interval from.0 to.0 reference.0, to.1)
      else Err Shape

-- the entries up to the end, at most so many
unfoldable pub deletions_from : ℕ → List ℕ → Result (List Deletion) TombstoneError
deletions_from n [] = Ok []
deletions_from zero (b ∷ bytes) = Err Shape
deletions_from (suc n) (b ∷ bytes) = do
  first ← entry_at (b ∷ bytes)
  others ← deletions_from n first.1
  Ok (first.0 ∷ others)

unfoldable pub deletions_of : List ℕ → Result (List Deletion) TombstoneError
deletions_of file = do
  entries ← entries_of file
  deletions_from (length entries) entries
