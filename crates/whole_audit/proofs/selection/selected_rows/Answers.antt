use Rattle.std.proofs.Common.{subst, List}
use Rattle.std.specs.List.Sorted.{IsPermutation, IsStableBy}
use Rattle.labels.specs.Rows.{Row, row_before}
use Rattle.matchers.specs.Satisfies.{satisfies_all}
use Rattle.auditor.proofs.SelectedRows.{AreRows-found}
use Rattle.whole_audit.proofs.selection.selected_rows.Goals as goal

pub returns : goal.returns
returns c =
    let query = c.args.looks.now in
    let rows : List Row = c.sort_rows.new.rows.items in
    let sorted = c.in_ok-sort_rows.ensures in
    AreRows-found (satisfies_all query.matchers) query.from query.to
    c.args.series.now c.requires rows
    (subst (λ (xs : List Row). IsPermutation xs rows) c.in_ok-rows.ensures sorted.moved)
    sorted.sorted
    (subst (λ (xs : List Row). IsStableBy row_before xs rows) c.in_ok-rows.ensures sorted.stable)
