use Rattle.clap.specs.Words.{found_of}
use Rattle.commands.proofs.CommandLines.{flag_read}
use Rattle.commands.proofs.command.flag_in.Goals as goal

pub returns : goal.returns
returns c =
    flag_read (found_of c.args.found.now) c.args.name.now c.get_flag.result
    c.get_flag.ensures.none c.get_flag.ensures.value c.get_flag.ensures.other
