use Rattle.std.proofs.Common.{rules, ◌≡◌, ◌++◌, ◌-◌, true, List, ℤ, drop, ap, ◌∙◌, arith}
use Rattle.labels.specs.Rows.{Row}
use Rattle.series_merge.specs.Merging.{laid_all}
use Rattle.series_merge.proofs.LaidRows.{laid_more, laid_rises}
use Rattle.series_merge.proofs.laying.append_runs.Goals as goal

pub loop-left-preserved : goal.loop-left-preserved
loop-left-preserved c =
    let l = c.loop-left in
    let runs : List Row = c.args.runs.now in
    let run : Row = c.index-runs-left.result in
    let laid : List (ℤ × ℤ) = l.laid.items in
    let new : List (ℤ × ℤ) = c.extend_from_slice.new.self.items in
    let late : c.come_after.result ≡ true = search (rules, c.if-not-come_after.false) in
    let after = rw (late, c.as_slice.ensures.value, c.samples-samples.ensures) at c.come_after.ensures.laid in
    let put : new ≡ laid ++ run.1 =
    c.in_ok-extend_from_slice.ensures.items ∙ ap (λ (ss : List (ℤ × ℤ)). laid ++ ss) c.samples-samples.ensures in
    let same : new ≡ laid_all (drop (l.left - 1) runs) =
    laid_more runs l.left run laid new c.loop-left-test.true l.invariant.within
    c.index-runs-left.is l.invariant.same after put in
    record {
      same = same;
      rises = laid_rises (drop (l.left - 1) runs) new same;
      within = omega (arith, l.invariant.within);
      begun = λ h. omega (arith, c.loop-left-test.true, l.invariant.within);
    }
