use Rattle.std.proofs.Common.{take}
use Rattle.logged_folder.specs.Logged.{MayLeaveAll, files_of}
use Rattle.logged_folder.proofs.LoggedFolder.left.Given as goal

abbrev pub invariant-loop-at : goal.invariant-loop-at
invariant-loop-at l = MayLeaveAll (take l.at l.self.log.items) (files_of l.log.items)
