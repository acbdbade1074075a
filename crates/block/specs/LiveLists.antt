-- What a list of live series shows.
use Rattle.std.specs.Prelude.{ℕ, List, drop}
use Rattle.labels.specs.Parts.{live_references}
use Rattle.block.specs.declared.live_list.LiveList.{LiveList}

-- the references that it has still to give
abbrev pub live_in : LiveList → List ℕ
live_in live = live_references live.times.from live.times.to (drop live.place live.block.now.part)
