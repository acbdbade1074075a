use Rattle.std.specs.Prelude.{◌≡◌, Ok}
use Rattle.std.proofs.Common.{subst, rules, to_z, of_z, w64}
use Rattle.head.specs.Outcomes.{IsStepRefusal}
use Rattle.head.specs.Taking.{head_added_each}
use Rattle.head.specs.Slots.{series_in_each}
use Rattle.head.proofs.Applies.{refused_at}
use Rattle.head.proofs.adding.add_pairs.Goals as goal

pub returns-in-Err-clause-step : goal.returns-in-Err-clause-step
returns-in-Err-clause-step c =
    let same_floor : to_z w64 (of_z w64 c.args.floor) ≡ c.args.floor = search rules in
    subst (λ f. IsStepRefusal c.in-Err.refusal (head_added_each f (Ok (series_in_each c.args.draft.now)) 0 c.args.batch.now)) same_floor
    (subst (IsStepRefusal c.in-Err.refusal) c.loop-i.invariant.same
    (refused_at (to_z w64 (of_z w64 c.args.floor)) (series_in_each c.loop-i.draft) c.loop-i.i c.args.batch.now c.index-batch-i.result c.in-Err.refusal c.loop-i-test.true c.index-batch-i.is c.in-Err.ensures.step))
