use Rattle.std.proofs.Common.{◌≡◌, ◌++◌, take, map}
use Rattle.index_reader.specs.Reading.Flat.{moved}
use Rattle.index_reader.proofs.joining.add_moved.Given as goal

abbrev pub invariant-loop-later : goal.invariant-loop-later
invariant-loop-later l =
    l.series.items ≡ l.fn.series.items ++ map (moved l.labels l.chunks) (take l.later-index l.more)
