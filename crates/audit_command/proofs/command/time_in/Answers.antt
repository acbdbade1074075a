use Rattle.std.specs.Int.{w64}
use Rattle.std.proofs.lemmas.Int.{to_z-of_z}
use Rattle.clap.specs.Words.{found_of}
use Rattle.audit_command.proofs.CommandLines.{time_given, time_missing}
use Rattle.audit_command.proofs.command.time_in.Goals as goal

pub returns-in-Some : goal.returns-in-Some
returns-in-Some c =
    time_given (found_of c.args.found.now) c.args.name.now c.args.other c.in-Some.time _ (λ fits. to_z-of_z w64 c.in-Some.time fits)
    c.in-Some.ensures.none (λ t e. (c.in-Some.ensures.value t e).0)

pub returns-in-None : goal.returns-in-None
returns-in-None c =
    rw (to_z-of_z w64 c.args.other c.ranges.other)
    (time_missing (found_of c.args.found.now) c.args.name.now c.args.other (λ t e. (c.in-None.ensures.value t e).1.0))
