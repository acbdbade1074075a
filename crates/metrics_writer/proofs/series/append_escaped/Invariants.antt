use Rattle.std.proofs.Common.{◌≡◌, ◌++◌, drop}
use Rattle.std.specs.List.{flat_map}
use Rattle.metrics_writer.specs.Series.{escape}
use Rattle.metrics_writer.proofs.series.append_escaped.Given as goal

abbrev pub invariant-loop-c : goal.invariant-loop-c
invariant-loop-c l =
    l.out.items ++ flat_map escape (drop l.c-index l.text)
    ≡ l.fn.out.items ++ flat_map escape l.text
