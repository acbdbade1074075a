-- Which parts of a snapshot a query is put to.
use Rattle.std.specs.Prelude.{◌≡◌, ℕ, ℤ, ◌+◌, Bool, false, not, ◌||◌, List, [], ◌∷◌, ◌++◌, map}
use Rattle.std.specs.Prelude.{filter, int_le, int_lt}
use Rattle.std.specs.List.{AllByRecursion}
use Rattle.labels.specs.Rows.{Row}
use Rattle.labels.specs.Parts.{Part, content_of, has_sample}
use Rattle.matchers.specs.Views.{QueryView}
use Rattle.matchers.specs.Queries.{selected_by}
use Rattle.postings.specs.declared.part_name.PartName.{PartName}
use Rattle.postings.specs.declared.part_name.PartName.TheVariants.{Block as BlockName, Head}
use Rattle.head.specs.Heads.{BlockPart, SnapshotParts, head_part, parts_of}

-- whether a query skips a block of this range: the end is not above the first time of the query's,
-- or the first time is above its last
abbrev pub is_skipped : QueryView → ℤ × ℤ → Bool
is_skipped query range = int_le range.1 query.from || int_lt query.to range.0

-- a part of a snapshot under its name, and whether a query skips it
pub record AskedPart : Type 0 where
  pub name : PartName
  pub part : Part
  pub skipped : Bool

-- blocks, of which the first has this number
abbrev pub asked_blocks : QueryView → ℕ → List BlockPart → List AskedPart
asked_blocks query n [] = []
asked_blocks query n (b ∷ bs) =
    record { name = BlockName n; part = b.part; skipped = is_skipped query (b.min, b.max) }
    ∷ asked_blocks query (n + 1) bs

-- the head, which no query skips
abbrev pub asked_head : SnapshotParts → AskedPart
asked_head s = record { name = Head; part = head_part s.head; skipped = false }

-- all parts: the blocks in their order, and then the head
abbrev pub asked_parts : QueryView → SnapshotParts → List AskedPart
asked_parts query s = asked_blocks query 0 s.blocks ++ asked_head s ∷ []

-- the parts that a query searches, in their order
abbrev pub searched_parts : QueryView → SnapshotParts → List AskedPart
searched_parts query s = filter (λ p. not p.skipped) (asked_parts query s)

-- no series of the part has a sample in the closed range
abbrev pub HasNoSample : ℤ → ℤ → Part → Type 0
HasNoSample from to part =
    AllByRecursion (λ (row : ℕ × Row). has_sample from to row.1.1 ≡ false) part

-- what a query selects of the parts that it searches is what it selects of all parts
abbrev pub LosesNothing : QueryView → SnapshotParts → Type 0
LosesNothing query s =
    selected_by query (content_of (map (λ p. p.part) (searched_parts query s)))
    ≡ selected_by query (content_of (parts_of s))
