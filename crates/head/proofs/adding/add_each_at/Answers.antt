use Rattle.std.specs.Prelude.{◌≡◌, Ok}
use Rattle.std.proofs.Common.{subst, rules, ◌∙◌, arith, to_z, of_z, w64}
use Rattle.head.specs.BatchRows.{pairs_with}
use Rattle.head.specs.Outcomes.{IsStepRefusal}
use Rattle.head.specs.Taking.{head_added_each}
use Rattle.head.specs.Slots.{series_in_each}
use Rattle.head.proofs.Ordered.{same_place}
use Rattle.head.proofs.RowSteps.{still_inside, each_next, each_refused, each_done}
use Rattle.head.proofs.adding.add_each_at.Goals as goal

pub add_at-requires : goal.add_at-requires
add_at-requires c = still_inside c.args.draft.now c.loop-i.draft c.args.place c.loop-i.invariant.sets c.requires.inside

pub returns-in-Err-clause-step : goal.returns-in-Err-clause-step
returns-in-Err-clause-step c = λ l is.
    let same_floor : to_z w64 (of_z w64 c.args.floor) ≡ c.args.floor = search rules in
    subst (λ f. IsStepRefusal c.in-Err.refusal (head_added_each f (Ok (series_in_each c.args.draft.now)) c.args.at (pairs_with l c.args.samples.now))) same_floor
    (each_refused (to_z w64 (of_z w64 c.args.floor)) (series_in_each c.args.draft.now) (series_in_each c.loop-i.draft) c.args.at c.loop-i.i l c.args.samples.now c.index-samples-i.result c.in-Err.refusal
    c.loop-i-test.true c.index-samples-i.is (c.loop-i.invariant.same l is)
    (c.in-Err.ensures.step l (same_place l 0 (series_in_each c.loop-i.draft) (series_in_each c.args.draft.now) c.loop-i.invariant.sets ∙ is)))

pub loop-i-preserved : goal.loop-i-preserved
loop-i-preserved c = record {
  within = omega arith;
  sets = c.in-Ok.ensures.labels ∙ c.loop-i.invariant.sets;
  same = λ l is.
      each_next (to_z w64 (of_z w64 c.args.floor)) (series_in_each c.args.draft.now) (series_in_each c.loop-i.draft) (series_in_each c.add_at.new.draft) c.args.at c.loop-i.i l c.args.samples.now c.index-samples-i.result
      c.loop-i-test.true c.index-samples-i.is (c.loop-i.invariant.same l is)
      (c.in-Ok.ensures.step l (same_place l 0 (series_in_each c.loop-i.draft) (series_in_each c.args.draft.now) c.loop-i.invariant.sets ∙ is));
  few = omega (arith, c.in-Ok.ensures.few);
  counted = omega (arith, c.in-Ok.ensures.counted);
  owners = λ l is p h all.
      c.in-Ok.ensures.owners l (same_place l 0 (series_in_each c.loop-i.draft) (series_in_each c.args.draft.now) c.loop-i.invariant.sets ∙ is) p h
      (c.loop-i.invariant.owners l is p h all);
}

pub returns-clause-step : goal.returns-clause-step
returns-clause-step c = λ l is.
    let same_floor : to_z w64 (of_z w64 c.args.floor) ≡ c.args.floor = search rules in
    subst (λ f. head_added_each f (Ok (series_in_each c.args.draft.now)) c.args.at (pairs_with l c.args.samples.now) ≡ Ok (series_in_each c.loop-i.draft)) same_floor
    (each_done (to_z w64 (of_z w64 c.args.floor)) (series_in_each c.args.draft.now) (series_in_each c.loop-i.draft) c.args.at c.loop-i.i l c.args.samples.now
    (omega (arith, c.loop-i-test.false)) (c.loop-i.invariant.same l is))
