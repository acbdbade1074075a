use Rattle.std.proofs.Common.{map, take}
use Rattle.head.specs.Blocks.{part_in}
use Rattle.commands.specs.Opening.{AreBlocksAt}
use Rattle.commands.specs.Reading.{paths_of}
use Rattle.commands.proofs.opening.open_each.Given as goal

abbrev pub invariant-loop-directory : goal.invariant-loop-directory
invariant-loop-directory g l =
    AreBlocksAt (g.F.ReadFiles.may_read l.fn.files)
    (take l.directory-index (paths_of l.directories)) (map part_in l.blocks.items)
