use Rattle.std.proofs.Common.{◌≡◌, ◌/◌, List, length, ◌∙◌}
use Rattle.std.proofs.lemmas.Result.{IfOk-weaker}
use Rattle.labels.specs.Rows.{Row}
use Rattle.series_merge.specs.Merging.{laid_times, laid_all}
use Rattle.series_merge.proofs.LaidRows.{laid_halves, laid_rises}
use Rattle.series_merge.proofs.laying.+lay_runs.Goals as goal

pub lay_samples-requires-clause-over_rises : goal.lay_samples-requires-clause-over_rises
lay_samples-requires-clause-over_rises t c =
    laid_rises c.split_at.result.0.now c.as_slice.result.now
    (c.as_slice.ensures.value ∙ c.in_ok-over.ensures)

pub lay_samples-requires-clause-under_rises : goal.lay_samples-requires-clause-under_rises
lay_samples-requires-clause-under_rises t c =
    laid_rises c.split_at.result.1.now c.in_ok-under.under.items c.in_ok-under.ensures

pub returns : goal.returns
returns t c =
    let runs : List Row = c.args.runs.now in
    let newer : List Row = c.split_at.result.0.now in
    let older : List Row = c.split_at.result.1.now in
    let over : c.as_slice.result.now ≡ laid_all newer = c.as_slice.ensures.value ∙ c.in_ok-over.ensures in
    let under : c.in_ok-under.under.items ≡ laid_all older = c.in_ok-under.ensures in
    IfOk-weaker c.lay_samples.result _ _ (λ laid e. e
    ∙ (λ i. laid_times (over i) (under i))
    ∙ laid_halves (length runs / 2) runs newer older c.split_at.ensures.front c.split_at.ensures.back)
    c.lay_samples.ensures.laid
