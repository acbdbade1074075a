-- What a list that is read in place shows.
use Rattle.std.specs.Prelude.{ℕ, List, drop}
use Rattle.block.specs.declared.raw_list.RawList.{RawList}

-- the references that it has still to give
abbrev pub remaining_of : RawList → List ℕ
remaining_of list = drop list.at list.entries.0

-- how many references were read for it
abbrev pub reads_of : RawList → ℕ
reads_of list = list.entries.1

-- how many references the last move read
abbrev pub last_reads_of : RawList → ℕ
last_reads_of list = list.last_reads
