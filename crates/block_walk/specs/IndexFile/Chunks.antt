-- The chunks of a series body.
use Rattle.std.specs.Prelude.{ℕ, ◌^◌, ℤ, pos, negsuc, ◌+ℤ◌, Bool, List, Result, Ok, Err, Option}
use Rattle.std.specs.Prelude.{Some, None, nat_lt, ◌==◌, if◌then◌else◌}
use Rattle.labels.specs.Contents.{is_time}
use Rattle.wire.specs.declared.error.WireError.{WireError}
use Rattle.wire.specs.Reading.{uvarint_at, varint_at}
use Rattle.block_walk.specs.declared.chunk.Chunk.{Chunk}

-- a reference, which is no less than 0 and has 64 bits
abbrev pub is_reference : ℤ → Bool
is_reference (pos n) = nat_lt n (2 ^ 64)
is_reference (negsuc n) = nat_lt 0 0

-- the time that is this much later, where it is one
unfoldable pub time_after : ℤ → ℕ → Option ℤ
time_after z n = if is_time (z +ℤ pos n) then Some (z +ℤ pos n) else None

-- a number that is no less than 0
abbrev pub natural : ℤ → ℕ
natural (pos n) = n
natural (negsuc n) = 0

-- the reference that is this much greater, where it is one
abbrev pub reference_after : ℕ → ℤ → Option ℕ
reference_after n z = if is_reference (pos n +ℤ z) then Some (natural (pos n +ℤ z)) else None

infixl 10 ◌>>=◌
-- the next step, where there is something
abbrev pub ◌>>=◌ : {A B : Type 0} → Option A → (A → Option B) → Option B
(Some x) >>= f = f x
None >>= f = None

-- a field, where it is not refused
abbrev pub read : {A : Type 0} → Result A WireError → Option A
read (Ok x) = Some x
read (Err e) = None

-- the first chunk of a series
unfoldable pub first_chunk_at : List ℕ → Option (Chunk × List ℕ)
first_chunk_at bytes = do
  mint ← read (varint_at bytes)
  length ← read (uvarint_at mint.1)
  reference ← read (uvarint_at length.1)
  if is_time mint.0 then (do
    maxt ← time_after mint.0 length.0
    Some (record { mint = mint.0; maxt = maxt; reference = reference.0 }, reference.1)) else None

-- a chunk after another
unfoldable pub later_chunk_at : Chunk → List ℕ → Option (Chunk × List ℕ)
later_chunk_at before bytes = do
  gap ← read (uvarint_at bytes)
  length ← read (uvarint_at gap.1)
  step ← read (varint_at length.1)
  if gap.0 == 0 then None else (do
    mint ← time_after before.maxt gap.0
    maxt ← time_after mint length.0
    reference ← reference_after before.reference step.0
    Some (record { mint = mint; maxt = maxt; reference = reference }, step.1))
