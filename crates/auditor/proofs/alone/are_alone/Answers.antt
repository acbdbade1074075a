use Rattle.std.proofs.Common.{◌≡◌, sym, ap, ◌∙◌}
use Rattle.labels.specs.Rows.{points_of}
use Rattle.auditor.proofs.OnlyRows.{listed_alone}
use Rattle.auditor.proofs.alone.are_alone.Goals as goal

pub returns-then-same_rows : goal.returns-then-same_rows
returns-then-same_rows c rising =
    let same : c.in-Some.listed.now ≡ c.args.rows.now = c.same_rows.ensures.0 c.if-same_rows.true in
    listed_alone c.args.answers.now c.args.rows.now (c.in-Some.ensures ∙ ap points_of same)
    c.requires (sym c.are_rising.ensures ∙ rising)
