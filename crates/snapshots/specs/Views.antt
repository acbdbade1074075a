-- What clauses see of a version, of a book and of a pass.
use Rattle.std.specs.Prelude.{ℕ, List, []}
use Rattle.logbook.specs.Pages.{Book}
use Rattle.head.specs.Heads.{SnapshotParts}
use Rattle.snapshots.specs.declared.entry.Entry.{Entry}
use Rattle.snapshots.specs.declared.entry.Mark.{Mark}

-- a version: of which store, the log that has accepted its list, and its snapshot
pub record Edition : Type 0 where
  pub book : Book
  pub marks : List Mark
  pub parts : SnapshotParts

-- where a store stands: the list that is published, the list that the next event is tried after,
-- how many events of each seat it has, and the snapshot after it
pub record Ledger : Type 0 where
  pub published : List Entry
  pub entries : List Entry
  pub counts : List ℕ
  pub parts : SnapshotParts

-- what a book has published, and its keeper
pub record Published (K : Type 0) : Type 0 where
  pub entries : List Entry
  pub parts : SnapshotParts
  pub keeper : K

-- what a pass has seen at its last entry, and what receipts told it
pub record Known : Type 0 where
  pub seen : List Entry
  pub told : List Entry

-- a new pass
abbrev pub nothing : Known
nothing = record { seen = []; told = [] }
