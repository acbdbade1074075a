use Rattle.std.proofs.Common.{map, take}
use Rattle.block_folder.specs.Steps.{call_of, DoesAll}
use Rattle.block_folder.proofs.step.do_all.Given as goal

abbrev pub invariant-loop-step : goal.invariant-loop-step
invariant-loop-step g l =
    DoesAll g.D.Disk.did (map call_of (take l.step-index l.steps)) l.initial.disk l.disk
