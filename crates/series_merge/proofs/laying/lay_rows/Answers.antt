use Rattle.std.proofs.Common.{ℤ, T, List, ap, ◌∙◌, subst}
use Rattle.std.specs.Ordering.{int_cmp}
use Rattle.std.specs.FinMap.Entries.{is_sorted}
use Rattle.std.proofs.lemmas.Result.{IfOk-weaker}
use Rattle.labels.specs.Rows.{Row}
use Rattle.series_merge.specs.Merging.{laid_all}
use Rattle.series_merge.proofs.LaidRows.{laid_oldest, laid_alike}
use Rattle.series_merge.proofs.laying.lay_rows.Goals as goal

pub returns-then-ascends : goal.returns-then-ascends
returns-then-ascends c =
    let rows : List Row = c.args.rows.now in
    let up : T (is_sorted int_cmp c.as_slice.result.now) = rw c.if-ascends.true at c.ascends.ensures in
    c.in_ok-all.ensures
    ∙ laid_oldest rows
    (subst (λ (ss : List (ℤ × ℤ)). T (is_sorted int_cmp ss))
    (c.as_slice.ensures.value ∙ c.in_ok-all.ensures) up)

pub returns : goal.returns
returns c =
    let rows : List Row = c.args.rows.now in
    let runs : List Row = c.in_ok-runs.runs.items in
    IfOk-weaker c.lay_runs.result _ _ (λ laid e. e
    ∙ ap laid_all c.as_slice-2.ensures.value
    ∙ laid_alike runs rows c.in_ok-runs.ensures.points)
    c.lay_runs.ensures
