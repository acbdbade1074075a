use Rattle.std.proofs.Common.{List, [], sym, subst, append-nil}
use Rattle.std.specs.List.{AllZip}
use Rattle.std.proofs.lemmas.List.{drop_all}
use Rattle.head.specs.Heads.{world_of}
use Rattle.history.specs.Machine.{started, machine_replies}
use Rattle.history.specs.Replies.{TellsOutcome, machine_at, world_after}
use Rattle.history.specs.Steps.{Step}
use Rattle.history.proofs.machine.run.Goals as goal

pub returns : goal.returns
returns c =
    let opening = c.args.opening.now in
    let steps : List Step = c.args.steps.now in
    let loop = c.loop-step in
    subst (AllZip TellsOutcome (machine_replies (started (world_of opening)) steps))
    (append-nil loop.replies.items)
    (loop.invariant []
    (subst (λ (left : List Step). AllZip TellsOutcome
    (machine_replies (machine_at (world_after opening loop.latest) loop.held) left) [])
    (sym (drop_all loop.step-index steps c.loop-step-test.false)) tt))
