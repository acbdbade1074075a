use Rattle.std.specs.Prelude.{◌≡◌, ◌+◌, List, Ok, slice_set, refl}
use Rattle.std.proofs.Common.{subst, rules, ap, ◌∙◌, arith, to_z, of_z, w64}
use Rattle.head.specs.BatchRows.{pairs_with}
use Rattle.head.specs.Heads.{HeadSeries}
use Rattle.head.specs.Outcomes.{IsStepRefusal}
use Rattle.head.specs.Taking.{head_added_each}
use Rattle.head.proofs.OwnSteps.{set_twice, set_itself, still_stands}
use Rattle.head.proofs.RowSteps.{each_next, each_refused, each_done}
use Rattle.head.proofs.growing.add_to_each.Goals as goal

pub loop-i-init : goal.loop-i-init
loop-i-init c = record {
  within = omega arith;
  labels = refl;
  same = λ ls head k st.
      let zero : c.args.at + 0 ≡ c.args.at = omega arith in
      λ i. head_added_each (to_z w64 (of_z w64 c.args.floor)) (Ok (set_itself ls head k c.args.series.now st i)) (zero i) (pairs_with ls c.args.samples.now);
}

pub loop-i-preserved : goal.loop-i-preserved
loop-i-preserved c = record {
  within = omega arith;
  labels = c.in-Ok.ensures.labels ∙ c.loop-i.invariant.labels;
  same = λ ls head k st.
      let before : List HeadSeries = slice_set head k c.loop-i.series in
      let stands = still_stands ls head k c.args.series.now c.loop-i.series st c.loop-i.invariant.labels in
      each_next (to_z w64 (of_z w64 c.args.floor)) head before (slice_set head k c.add_to.new.series) c.args.at c.loop-i.i ls c.args.samples.now c.index-samples-i.result
      c.loop-i-test.true c.index-samples-i.is (c.loop-i.invariant.same ls head k st)
      (c.in-Ok.ensures.step ls before k stands ∙ ap Ok (set_twice head k c.loop-i.series c.add_to.new.series));
}

pub returns-in-Err-clause-step : goal.returns-in-Err-clause-step
returns-in-Err-clause-step c = λ ls head k st.
    let same_floor : to_z w64 (of_z w64 c.args.floor) ≡ c.args.floor = search rules in
    let before : List HeadSeries = slice_set head k c.loop-i.series in
    let stands = still_stands ls head k c.args.series.now c.loop-i.series st c.loop-i.invariant.labels in
    subst (λ f. IsStepRefusal c.in-Err.refusal (head_added_each f (Ok head) c.args.at (pairs_with ls c.args.samples.now))) same_floor
    (each_refused (to_z w64 (of_z w64 c.args.floor)) head before c.args.at c.loop-i.i ls c.args.samples.now c.index-samples-i.result c.in-Err.refusal
    c.loop-i-test.true c.index-samples-i.is (c.loop-i.invariant.same ls head k st)
    (c.in-Err.ensures.step ls before k stands))

pub returns-clause-step : goal.returns-clause-step
returns-clause-step c = λ ls head k st.
    let same_floor : to_z w64 (of_z w64 c.args.floor) ≡ c.args.floor = search rules in
    subst (λ f. head_added_each f (Ok head) c.args.at (pairs_with ls c.args.samples.now) ≡ Ok (slice_set head k c.loop-i.series)) same_floor
    (each_done (to_z w64 (of_z w64 c.args.floor)) head (slice_set head k c.loop-i.series) c.args.at c.loop-i.i ls c.args.samples.now
    (omega (arith, c.loop-i-test.false)) (c.loop-i.invariant.same ls head k st))
