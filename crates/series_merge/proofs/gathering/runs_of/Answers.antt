use Rattle.std.proofs.Common.{◌++◌, List, ap, ◌∙◌}
use Rattle.std.proofs.lemmas.List.Sorted.{All-permutation}
use Rattle.labels.specs.Rows.{Row, IsFull, points_of}
use Rattle.series_merge.proofs.Contents.{ListAlike-same, ListAlike-trans, sorted_alike}
use Rattle.series_merge.proofs.gathering.runs_of.Goals as goal

pub returns-then-are_in_order-clause-listed : goal.returns-then-are_in_order-clause-listed
returns-then-are_in_order-clause-listed c =
    let rows : List Row = c.args.rows.now in
    ListAlike-same c.push_rows.new.all.items rows (c.in_ok-push_rows.ensures.points
    ∙ ap (λ (xs : List Row). points_of xs ++ points_of rows) c.in_ok-runs.ensures.items)

pub returns-clause-listed : goal.returns-clause-listed
returns-clause-listed c =
    let rows : List Row = c.args.rows.now in
    let found : List Row = c.push_rows.new.all.items in
    let sorted : List Row = c.sort_runs.new.runs.items in
    ListAlike-trans sorted found rows (sorted_alike found sorted c.in_ok-sort_runs.ensures.stable)
    (ListAlike-same found rows (c.in_ok-push_rows.ensures.points
    ∙ ap (λ (xs : List Row). points_of xs ++ points_of rows) c.in_ok-runs.ensures.items))

pub returns-clause-full : goal.returns-clause-full
returns-clause-full c =
    All-permutation IsFull c.push_rows.new.all.items c.sort_runs.new.runs.items
    c.in_ok-sort_runs.ensures.moved c.in_ok-push_rows.ensures.full
