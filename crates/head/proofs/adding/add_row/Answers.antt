use Rattle.std.specs.Prelude.{◌≡◌, ◌∷◌, Ok}
use Rattle.std.proofs.Common.{subst, rules, sym, ◌∙◌, arith, to_z, of_z, w64}
use Rattle.labels.specs.Labels.{Labels}
use Rattle.head.specs.BatchRows.{pairs_with}
use Rattle.head.specs.Outcomes.{IsStepRefusal}
use Rattle.head.specs.Taking.{head_added_each}
use Rattle.head.specs.Slots.{series_in_each}
use Rattle.head.proofs.Ordered.{ordered_alike}
use Rattle.head.proofs.Places.{stands_at}
use Rattle.head.proofs.RowSteps.{row_refused_first}
use Rattle.head.proofs.SlotLaws.{length-each}
use Rattle.head.proofs.adding.add_row.Goals as goal

pub returns-in-Err-clause-step : goal.returns-in-Err-clause-step
returns-in-Err-clause-step c =
    let same_floor : to_z w64 (of_z w64 c.args.floor) ≡ c.args.floor = search rules in
    let is : c.args.row.now.1 ≡ c.in-Some.first.now ∷ c.in-Some.rest.now = sym c.samples.ensures ∙ c.in-Some.ensures.cases.0 in
    subst (λ f. IsStepRefusal c.in-Err.refusal (head_added_each f (Ok (series_in_each c.args.draft.now)) c.args.at (pairs_with c.args.row.now.0 c.args.row.now.1))) same_floor
    (subst (λ (l : Labels). IsStepRefusal c.in-Err.refusal (head_added_each (to_z w64 (of_z w64 c.args.floor)) (Ok (series_in_each c.args.draft.now)) c.args.at (pairs_with l c.args.row.now.1))) c.labels.ensures
    (row_refused_first (to_z w64 (of_z w64 c.args.floor)) (series_in_each c.args.draft.now) c.args.at c.labels.result.now c.args.row.now.1 c.in-Some.rest.now c.in-Some.first.now c.in-Err.refusal is c.in-Err.ensures.step))

pub add_rest_at-requires-clause-inside : goal.add_rest_at-requires-clause-inside
add_rest_at-requires-clause-inside c =
    let st = stands_at c.labels.result.now (series_in_each c.add.new.draft) c.add.new.near.place c.in-Ok.ensures.placed in
    omega (arith, st.below, length-each c.add.new.draft)

pub returns-in-Ok-add_rest_at-clause-ordered : goal.returns-in-Ok-add_rest_at-clause-ordered
returns-in-Ok-add_rest_at-clause-ordered c =
    ordered_alike c.add.new.order (series_in_each c.add.new.draft) (series_in_each c.add_rest_at.new.draft) (sym c.in-Ok-add_rest_at.ensures.labels) c.in-Ok.ensures.ordered
