use Rattle.std.proofs.Common.{◌≡◌, true, false}
use Rattle.labels.specs.Rows.{Row, points_of}
use Rattle.labels.specs.Parts.{laid_over, rows_in}
use Rattle.matchers.specs.Satisfies.{satisfies_all}
use Rattle.matchers.specs.Queries.{selected_by}
use Rattle.history.proofs.Laying.{row_step, no_row_step}
use Rattle.history.proofs.walk.lay_part.Goals as goal

pub loop-row-preserved-in-Continue-branch-2 : goal.loop-row-preserved-in-Continue-branch-2
loop-row-preserved-in-Continue-branch-2 c =
    let q = c.args.query.now in
    let row : Row = c.in-Some.row in
    let passed : satisfies_all q.matchers row.0 ≡ true =
    cc
    (c.in_ok-satisfied.ensures, c.if-satisfied.true, c.matchers.ensures.items, c.labels.ensures) in
    row_step q c.loop-row.part.items c.pop.new.self.items (c.in-Some.field-0-0, row)
    c.loop-row.content.entries c.lay_row.new.content.entries
    (laid_over (selected_by q (points_of (rows_in c.args.part.items))) c.args.content.now.entries)
    c.in-Some.ensures.items passed c.in_ok-lay_row.ensures c.loop-row.invariant

pub loop-row-preserved : goal.loop-row-preserved
loop-row-preserved c =
    let q = c.args.query.now in
    let row : Row = c.in-Some.row in
    let failed : satisfies_all q.matchers row.0 ≡ false =
    cc
    (c.in_ok-satisfied.ensures, c.if-satisfied.false, c.matchers.ensures.items, c.labels.ensures) in
    no_row_step q c.loop-row.part.items c.pop.new.self.items (c.in-Some.field-0-0, row)
    c.loop-row.content.entries
    (laid_over (selected_by q (points_of (rows_in c.args.part.items)))
    c.args.content.now.entries) c.in-Some.ensures.items failed c.loop-row.invariant
