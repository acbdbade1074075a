use Rattle.std.proofs.Common.{◌≡◌, ℕ, List, [], take, map, nat_cmp}
use Rattle.std.specs.BTreeMap as tree
use Rattle.std.specs.Cmp.Lexicographic.{slice_cmp}
use Rattle.std.specs.Option.{option_map_or}
use Rattle.metrics_writer.specs.Groups.{metrics_of}
use Rattle.metrics_writer.proofs.Grouping.{left_of, of_metrics}
use Rattle.metrics_writer.proofs.double_rows.order_of.Given as goal

abbrev pub invariant-loop-row : goal.invariant-loop-row
invariant-loop-row l =
    (map (λ row. row.now) l.order.items
    ≡ of_metrics l.rows (metrics_of (take l.row-index l.rows)))
    × ((metric : List ℕ) → option_map_or (λ g. map (λ row. row.now) g.items)
    (tree.get_by (λ k. slice_cmp nat_cmp metric k.now) l.groups) []
    ≡ left_of metric (metrics_of (take l.row-index l.rows)) l.rows)
