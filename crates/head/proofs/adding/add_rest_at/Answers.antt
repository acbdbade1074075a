use Rattle.std.specs.Prelude.{◌≡◌, [], Ok, Some, pos, OnOk}
use Rattle.std.proofs.Common.{subst, rules, to_z, of_z, w64}
use Rattle.head.specs.BatchRows.{pairs_with}
use Rattle.labels.specs.Labels.{Labels}
use Rattle.head.specs.Heads.{HeadSeries}
use Rattle.head.specs.Orders.{sets_of}
use Rattle.head.specs.Outcomes.{IsOutcome}
use Rattle.head.specs.OwnSteps.{IsOwnGrown}
use Rattle.head.specs.Slots.{series_in_each, AddsNoOwnBut}
use Rattle.head.specs.Taking.{head_added_each, place_from}
use Rattle.head.proofs.OwnSteps.{own_step, own_labels, own_owners}
use Rattle.head.proofs.adding.add_rest_at.Goals as goal

some : HeadSeries
some = record { labels = []; samples = []; newest = (pos 0, pos 0) }

pub returns-in-Ok-clause-step : goal.returns-in-Ok-clause-step
returns-in-Ok-clause-step c = λ l is.
    let same_floor : to_z w64 (of_z w64 c.args.floor) ≡ c.args.floor = search rules in
    let grew = subst (λ f. IsOwnGrown c.args.draft.now c.add_own.new.self c.args.place f c.args.at c.args.samples.now c.in-Some.added some) same_floor (c.in-Some.ensures.some some) in
    subst (λ r. IsOutcome r (head_added_each c.args.floor (Ok (series_in_each c.args.draft.now)) c.args.at (pairs_with l c.args.samples.now)) (series_in_each c.add_own.new.self)) c.in-Ok.is
    (own_step c.args.draft.now c.add_own.new.self c.args.place c.args.floor c.args.at c.args.samples.now c.in-Some.added some c.requires.inside grew l is)

pub returns-in-Err-clause-step : goal.returns-in-Err-clause-step
returns-in-Err-clause-step c = λ l is.
    let same_floor : to_z w64 (of_z w64 c.args.floor) ≡ c.args.floor = search rules in
    let grew = subst (λ f. IsOwnGrown c.args.draft.now c.add_own.new.self c.args.place f c.args.at c.args.samples.now c.in-Some.added some) same_floor (c.in-Some.ensures.some some) in
    subst (λ r. IsOutcome r (head_added_each c.args.floor (Ok (series_in_each c.args.draft.now)) c.args.at (pairs_with l c.args.samples.now)) (series_in_each c.add_own.new.self)) c.in-Err.is
    (own_step c.args.draft.now c.add_own.new.self c.args.place c.args.floor c.args.at c.args.samples.now c.in-Some.added some c.requires.inside grew l is)

pub returns-in-Ok-clause-labels : goal.returns-in-Ok-clause-labels
returns-in-Ok-clause-labels c =
    let same_floor : to_z w64 (of_z w64 c.args.floor) ≡ c.args.floor = search rules in
    let grew = subst (λ f. IsOwnGrown c.args.draft.now c.add_own.new.self c.args.place f c.args.at c.args.samples.now c.in-Some.added some) same_floor (c.in-Some.ensures.some some) in
    subst (λ r. OnOk r (sets_of (series_in_each c.add_own.new.self) ≡ sets_of (series_in_each c.args.draft.now))) c.in-Ok.is
    (own_labels c.args.draft.now c.add_own.new.self c.args.place c.args.floor c.args.at c.args.samples.now c.in-Some.added some grew)

pub returns-in-Ok-clause-owners : goal.returns-in-Ok-clause-owners
returns-in-Ok-clause-owners c =
    let same_floor : to_z w64 (of_z w64 c.args.floor) ≡ c.args.floor = search rules in
    let grew = subst (λ f. IsOwnGrown c.args.draft.now c.add_own.new.self c.args.place f c.args.at c.args.samples.now c.in-Some.added some) same_floor (c.in-Some.ensures.some some) in
    subst (λ r. OnOk r ((l : Labels) → place_from l 0 (series_in_each c.args.draft.now) ≡ Some c.args.place → AddsNoOwnBut l c.args.draft.now c.add_own.new.self)) c.in-Ok.is
    (own_owners c.args.draft.now c.add_own.new.self c.args.place c.args.floor c.args.at c.args.samples.now c.in-Some.added some grew)
