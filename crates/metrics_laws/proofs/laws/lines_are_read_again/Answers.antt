use Rattle.metrics_laws.proofs.Lines.{line_again}
use Rattle.metrics_laws.proofs.laws.lines_are_read_again.Goals as goal

pub returns : goal.returns
returns c places labels s few set named t_small v_small =
    line_again places labels s set named t_small v_small
