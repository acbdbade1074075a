use Rattle.std.proofs.Common.{List, ◌++◌, ℤ, sym, ap, ◌∙◌}
use Rattle.labels.specs.Parts.{within}
use Rattle.prometheus_block.specs.Rows.{row_if}
use Rattle.prometheus_block.proofs.RowAfter.{no_row, a_row}
use Rattle.blocktool.proofs.listed.push_row.Goals as goal

pub returns-then-has_none : goal.returns-then-has_none
returns-then-has_none c =
    let row = c.args.row.now in
    let kept = within c.args.times.from c.args.times.to in
    no_row row.0 _ (kept row.1) _
    (c.deref.ensures.value ∙ (c.in_ok-samples.ensures ∙ ap kept c.samples.ensures))
    (sym c.has_none.ensures ∙ c.if-has_none.true)

pub returns : goal.returns
returns c =
    let row = c.args.row.now in
    let kept = within c.args.times.from c.args.times.to in
    let old = c.args.rows.now.items in
    a_row _ row.0 _ c.in_ok-samples.samples.items _ old _ c.deref.ensures.value
    (sym c.has_none.ensures ∙ c.if-has_none.false) (c.in_ok-labels.ensures ∙ c.labels.ensures)
    c.new.ensures c.in_ok-push.ensures.items
    ∙ ap (λ (ss : List (ℤ × ℤ)). old ++ row_if row.0 ss)
    (c.in_ok-samples.ensures ∙ ap kept c.samples.ensures)
