use Rattle.std.proofs.Common.{take}
use Rattle.commands.specs.Checking.{IsChecked}
use Rattle.commands.specs.Reading.{paths_of}
use Rattle.commands.proofs.check.check.Given as goal

abbrev pub invariant-loop-directory : goal.invariant-loop-directory
invariant-loop-directory g l =
    IsChecked (g.F.ReadFiles.may_read l.fn.files) (take l.directory-index (paths_of l.directories))
    (g.W.Write.contents l.fn.out) (g.W.Write.contents l.out) l.outcome
