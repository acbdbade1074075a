use Rattle.std.proofs.Common.{sym}
use Rattle.server.proofs.Asking.{lacking, parted_in}
use Rattle.server.proofs.status.parted.Goals as goal

pub returns-in-Some : goal.returns-in-Some
returns-in-Some c =
    parted_in c.args.byte c.args.text.now c.in-Some.place (sym c.in-Some.ensures)

pub returns-in-None : goal.returns-in-None
returns-in-None c = lacking c.args.byte c.args.text.now (sym c.in-None.ensures)
