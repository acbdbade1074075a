use Rattle.std.proofs.Common.{◌≡◌, take}
use Rattle.std.specs.List.{filter_map}
use Rattle.block_search.specs.Answering.{row_of_interval}
use Rattle.block_search.proofs.one_part.matched_rows.Given as goal

abbrev pub invariant-loop-interval : goal.invariant-loop-interval
invariant-loop-interval g l = l.rows.items
    ≡ filter_map (row_of_interval l.query.from l.query.to (g.S.Source.part l.source))
    (take l.interval-index l.certificate)
