use Rattle.open_metrics.proofs.Whole.{found_in, only_in}
use Rattle.open_metrics.proofs.lines.read_line.Goals as goal

pub returns-clause-found : goal.returns-clause-found
returns-clause-found c =
    found_in c.args.format c.args.places c.args.line.now c.line_of.result c.line_of.ensures

pub returns-clause-only : goal.returns-clause-only
returns-clause-only c s is =
    only_in c.args.format c.args.places c.args.line.now c.line_of.result s c.line_of.ensures is
