use Rattle.blocktool.proofs.Told.{other_told}
use Rattle.blocktool.proofs.from_openmetrics.other.Goals as goal

pub returns-in-Ok : goal.returns-in-Ok
returns-in-Ok c = other_told c.in-Ok.name c.args.left
