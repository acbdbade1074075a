use Rattle.std.proofs.Common.{◌+◌, sym, ◌∙◌, arith, None, Some, drop}
use Rattle.kept_world.specs.States.{entries_of}
use Rattle.kept_world.proofs.Placing.{runs_step, refused_stays}
use Rattle.kept_world.proofs.head.Head.add_all.Goals as goal

pub returns-in-None : goal.returns-in-None
returns-in-None c =
    let n = c.args.number in
    let floor = c.args.floor.now in
    let i = c.loop-run.run-index in
    let run = c.run-item.result in
    sym (refused_stays n floor (entries_of (drop (i + 1) c.args.runs.now)))
    ∙ sym (runs_step n floor c.args.runs.now i run c.loop-run.head None (omega arith) c.run-item.is (sym c.in_ok-next.ensures ∙ c.in-None.is))
    ∙ c.loop-run.invariant

pub loop-run-preserved : goal.loop-run-preserved
loop-run-preserved c =
    let n = c.args.number in
    let floor = c.args.floor.now in
    let i = c.loop-run.run-index in
    let run = c.run-item.result in
    sym (runs_step n floor c.args.runs.now i run c.loop-run.head (Some c.in-Some.next) (omega arith) c.run-item.is (sym c.in_ok-next.ensures ∙ c.in-Some.is))
    ∙ c.loop-run.invariant
