use Rattle.clap.specs.Words.{found_of}
use Rattle.commands.proofs.CommandLines.{count_given, count_missing}
use Rattle.commands.proofs.command.count_in.Goals as goal

pub returns-in-Some : goal.returns-in-Some
returns-in-Some c =
    count_given (found_of c.args.found.now) c.args.name.now c.args.other c.in-Some.count
    c.in-Some.ensures.none (λ t e. (c.in-Some.ensures.value t e).0)

pub returns-in-None : goal.returns-in-None
returns-in-None c =
    count_missing (found_of c.args.found.now) c.args.name.now c.args.other (λ t e.
    (c.in-None.ensures.value t e).1.0)
