use Rattle.std.proofs.Common.{◌≡◌, ◌++◌, drop}
use Rattle.std.specs.List.{flat_map}
use Rattle.metrics_writer.specs.Series.{line_text}
use Rattle.metrics_writer.proofs.rows.append_lines.Given as goal

abbrev pub invariant-loop-sample : goal.invariant-loop-sample
invariant-loop-sample l =
    l.out.items ++ flat_map (line_text l.places l.series) (drop l.sample-index l.samples)
    ≡ l.fn.out.items ++ flat_map (line_text l.places l.series) l.samples
