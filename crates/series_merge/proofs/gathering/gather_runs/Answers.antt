use Rattle.std.proofs.Common.{List, ap, sym, ◌∙◌, subst, arith, ◌≡◌, ◌++◌, ◌∷◌, []}
use Rattle.std.specs.List.{All}
use Rattle.std.specs.List.Sorted.{IsSortedBy}
use Rattle.std.proofs.lemmas.List.Elements.{All-push}
use Rattle.labels.specs.Rows.{Row, row_before}
use Rattle.cover.specs.declared.part_cover.PartAnswer.{PartAnswer}
use Rattle.series_merge.specs.Merging.{ListAlike}
use Rattle.series_merge.proofs.Runs.{answer_pushed, full_part}
use Rattle.series_merge.proofs.gathering.gather_runs.Goals as goal

pub loop-left-preserved : goal.loop-left-preserved
loop-left-preserved c =
    let parts : List (List Row) = c.loop-left.parts.items in
    let new : List (List Row) = c.push.new.self.items in
    let runs : List Row = c.in_ok-runs.runs.items in
    let put : new ≡ parts ++ runs ∷ [] =
    c.in_ok-push.ensures.items ∙ ap (λ (p : List Row). parts ++ p ∷ []) c.new.ensures in
    record {
      listed = answer_pushed c.args.answers.now c.loop-left.left c.index-answers-left.result parts
          new runs (omega (arith, c.loop-left-test.true))
          c.loop-left.invariant.within c.index-answers-left.is c.loop-left.invariant.listed
          (subst (ListAlike runs)
          (c.as_slice.ensures.value ∙ ap (λ (a : PartAnswer). a.rows.items) (sym c.index-answers-left.is))
          c.in_ok-runs.ensures.listed)
          put;
      full = full_part parts new runs put c.loop-left.invariant.full c.in_ok-runs.ensures.full;
      sorted = subst (λ (ps : List (List Row)). All (IsSortedBy row_before) ps) (sym put)
          (All-push (IsSortedBy row_before) parts runs c.loop-left.invariant.sorted
          c.in_ok-runs.ensures.sorted);
      within = omega (arith, c.loop-left.invariant.within);
    }
