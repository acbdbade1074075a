-- Blocks that are joined.
use Rattle.std.specs.Prelude.{◌≡◌, ◌<◌, ◌+◌, ℕ, T, List, ◌++◌, length, map, take, drop}
use Rattle.std.specs.FinMap.Entries.{is_sorted}
use Rattle.labels.specs.Labels.{point_cmp}
use Rattle.labels.specs.Contents.{Content}
use Rattle.labels.specs.Parts.{Part, over}
use Rattle.head.specs.Heads.{BlockPart, SnapshotParts}
use Rattle.head.specs.Worlds.{Event, batch, deletion, cut, joined}

abbrev pub parts_in : List BlockPart → List Part
parts_in blocks = map (λ (b : BlockPart). b.part) blocks

-- laid over any content, a later block over an earlier one, the new blocks make what the old make
abbrev pub HoldSame : List BlockPart → List BlockPart → Type 0
HoldSame old new =
    (c : Content) → T (is_sorted point_cmp c) → over c (parts_in old) ≡ over c (parts_in new)

-- so many of the blocks, from a place on, have become fewer, which hold the same; those before and
-- behind them stay as they are
pub record IsJoined (at count made : ℕ) (old new : List BlockPart) : Type 0 where
  pub front : List BlockPart
  pub run : List BlockPart
  pub fewer : List BlockPart
  pub back : List BlockPart
  pub was : old ≡ front ++ (run ++ back)
  pub is : new ≡ front ++ (fewer ++ back)
  pub at_place : length front ≡ at
  pub of_run : length run ≡ count
  pub so_many : length fewer ≡ made
  pub less : made < count
  pub same : HoldSame run fewer

-- the blocks with these in the place of so many from a place on
abbrev pub blocks_joined : ℕ → ℕ → List BlockPart → List BlockPart → List BlockPart
blocks_joined at count made blocks = take at blocks ++ (made ++ drop (at + count) blocks)

-- the snapshot with these blocks in that place; all else of it stays, and no sample was copied
abbrev pub snapshot_joined : ℕ → ℕ → List BlockPart → SnapshotParts → SnapshotParts
snapshot_joined at count made s = record {
  blocks = blocks_joined at count made s.blocks;
  head = s.head;
  floor = s.floor;
  copied = 0;
}

-- an event that is no join: it leaves blocks as many and where they are
abbrev pub IsNoJoin : Event → Type 0
IsNoJoin (batch xs) = Unit {0}
IsNoJoin (deletion ms from to) = Unit {0}
IsNoJoin (cut t) = Unit {0}
IsNoJoin (joined at count made) = ⊥
