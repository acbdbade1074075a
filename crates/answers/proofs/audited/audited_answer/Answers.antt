use Rattle.std.proofs.Common.{subst}
use Rattle.series_merge.specs.OnePart.{AreMergedFrom}
use Rattle.answers.proofs.OnePart.{rows_are_selected}
use Rattle.answers.proofs.audited.audited_answer.Goals as goal

pub returns-clause-rows : goal.returns-clause-rows
returns-clause-rows c =
    rows_are_selected c.args.query.now c.args.snapshot.now c.args.answers.items
    c.in_ok-parts.parts.items c.in_ok-merged.merged c.requires.each
    (c.in_ok-parts.ensures c.args.query.now c.requires.each) c.requires.whole
    (subst (λ answers. AreMergedFrom answers c.in_ok-merged.merged) c.as_slice.ensures.value
    c.in_ok-merged.ensures)
