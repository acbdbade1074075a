use Rattle.std.proofs.Common.{take}
use Rattle.metrics_writer.specs.Doubles.{IsDoubleLine}
use Rattle.metrics_writer.proofs.Joining.{Appended}
use Rattle.metrics_writer.proofs.double_rows.append_lines.Given as goal

abbrev pub invariant-loop-sample : goal.invariant-loop-sample
invariant-loop-sample l =
    Appended (IsDoubleLine l.series) (take l.sample-index l.samples) l.fn.out.items l.out.items
