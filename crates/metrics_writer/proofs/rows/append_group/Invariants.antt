use Rattle.std.proofs.Common.{◌≡◌, ◌++◌, drop}
use Rattle.std.specs.List.{flat_map}
use Rattle.metrics_writer.specs.Series.{row_text}
use Rattle.metrics_writer.proofs.rows.append_group.Given as goal

abbrev pub invariant-loop-row : goal.invariant-loop-row
invariant-loop-row l =
    l.out.items ++ flat_map (λ row. row_text l.places row.now) (drop l.row-index l.group)
    ≡ l.fn.out.items ++ flat_map (λ row. row_text l.places row.now) l.group
