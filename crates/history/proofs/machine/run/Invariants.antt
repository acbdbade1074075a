use Rattle.std.proofs.Common.{List, ◌++◌, drop}
use Rattle.std.specs.List.{AllZip}
use Rattle.head.specs.Heads.{world_of}
use Rattle.history.specs.declared.reply.Reply.{Reply}
use Rattle.history.specs.Machine.{started, machine_replies}
use Rattle.history.specs.Replies.{TellsOutcome, machine_at, world_after}
use Rattle.history.proofs.machine.run.Given as goal

-- with replies to the steps that are left, the replies so far are those to all steps
abbrev pub invariant-loop-step : goal.invariant-loop-step
invariant-loop-step l =
    (rest : List Reply)
    → AllZip TellsOutcome (machine_replies (machine_at (world_after l.opening l.latest) l.held)
    (drop l.step-index l.steps)) rest
    → AllZip TellsOutcome (machine_replies (started (world_of l.opening)) l.steps)
    (l.replies.items ++ rest)
