use Rattle.std.proofs.Common.{[], List, ap, ◌∙◌, subst}
use Rattle.std.proofs.lemmas.Result.{IfOk-weaker}
use Rattle.labels.specs.Rows.{Row, AreRows, points_of}
use Rattle.labels.specs.Parts.{laid_over}
use Rattle.series_merge.specs.Walking.{all_rows}
use Rattle.series_merge.proofs.Contents.{merged_is}
use Rattle.series_merge.proofs.merging.merge.Goals as goal

pub returns : goal.returns
returns c =
    let parts : List (List Row) = c.in_ok-parts.parts.items in
    IfOk-weaker c.walk.result _ _ (λ rows are. subst (AreRows rows.items)
    (ap (λ (ps : List (List Row)). laid_over (points_of (all_rows ps)) []) c.as_mut_slice.ensures.value
    ∙ merged_is c.args.answers.now (all_rows parts) c.in_ok-parts.ensures.listed) are)
    c.walk.ensures
