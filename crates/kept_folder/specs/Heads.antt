-- The checksum of the head of a journal, which tells one head from another.
use Rattle.std.specs.Prelude.{◌≡◌, ◌-◌, ℕ, List, [], ◌∷◌, length, take}
use Rattle.wire.specs.Checksum.{crc32c}
use Rattle.journal.specs.Records.{file_of, Recovers}
use Rattle.kept_walk.specs.Contents.{IsKept}
use Rattle.kept_walk.specs.Kept.{Store}

-- the journal of the contents of a head; no bytes, if there is no head
abbrev pub front_of : List (List ℕ) → List ℕ
front_of [] = []
front_of (first ∷ series) = file_of (first ∷ series)

-- The number is the CRC-32C of the front of the file: of its header and its records, without those
-- of the last few, as many as events.
pub record IsHeadSum (file : List ℕ) (events sum : ℕ) : Type 0 where
  pub contents : List (List ℕ)
  pub recovers : Recovers file contents
  pub sum_is : sum ≡ crc32c (front_of (take (length contents - events) contents))

-- the file is the journal of this store, and this is the checksum of its head: of all records
-- before those of the events
pub record IsMarked (file : List ℕ) (store : Store) (sum : ℕ) : Type 0 where
  pub kept : IsKept file store
  pub head : IsHeadSum file (length store.events) sum
