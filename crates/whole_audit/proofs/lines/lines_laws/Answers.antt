use Rattle.whole_audit.proofs.AllRight.{whole_of_lines, lines_of_whole}
use Rattle.whole_audit.proofs.lines.lines_laws.Goals as goal

pub returns : goal.returns
returns c = λ blocks head query reply lines are. (
  whole_of_lines blocks head query reply lines are,
  lines_of_whole blocks head query reply lines are,
)
