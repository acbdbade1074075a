use Rattle.std.proofs.lemmas.Result.{err_from_is_err_and}
use Rattle.std.proofs.Common.{◌≡◌, true, ℤ, List, map, sym, subst, ◌∙◌, rules, to_z, of_z, w64}
use Rattle.labels.proofs.Times.{true_not_false}
use Rattle.block.specs.Blocks.{Shown}
use Rattle.head.specs.Blocks.{part_in, EachInside}
use Rattle.head.specs.Heads.{IsSoundHead, IsSoundSnapshot}
use Rattle.head.specs.Resuming.{may_have, resumed, MayStand, MayStandInHead}
use Rattle.head.proofs.Resuming.{denies_more, head_stands, stands, standing_passes}
use Rattle.head.proofs.snapshot.Snapshot.resumed.Goals as goal

pub returns-then-not-may_have-clause-refused : goal.returns-then-not-may_have-clause-refused
returns-then-not-may_have-clause-refused c = λ may.
    let floor_is : to_z w64 (of_z w64 c.args.floor) ≡ c.args.floor = search rules in
    true_not_false
    (sym (standing_passes c.args.floor c.args.blocks.items c.args.saved.now may.sound)
    ∙ (λ i. may_have (sym floor_is i) (sym c.as_slice.ensures.value i))
    ∙ sym c.may_have.ensures.told ∙ c.if-not-may_have.true)

pub returns-in_err-head-clause-refused : goal.returns-in_err-head-clause-refused
returns-in_err-head-clause-refused c =
    let floor_is : to_z w64 (of_z w64 c.args.floor) ≡ c.args.floor = search rules in
    let blocks = map part_in c.args.blocks.items in
    let f : MayStand (resumed blocks c.args.floor c.args.saved.now) → MayStandInHead (to_z w64 (of_z w64 c.args.floor)) c.args.saved.now =
    λ may. subst (λ (z : ℤ). MayStandInHead z c.args.saved.now) (sym floor_is) (head_stands blocks c.args.floor c.args.saved.now may) in
    let p = err_from_is_err_and c.from_residual.result c.from_residual.ensures.1 in
    rw (p.1, p.2) (denies_more c.in_err-head.field-0.0 (MayStandInHead (to_z w64 (of_z w64 c.args.floor)) c.args.saved.now) (MayStand (resumed blocks c.args.floor c.args.saved.now)) f c.in_err-head.ensures.refused)

pub invariant_of-result : goal.invariant_of-result
invariant_of-result c =
    let floor_is : to_z w64 (of_z w64 c.args.floor) ≡ c.args.floor = search rules in
    let blocks : List Shown = c.args.blocks.items in
    let inside : EachInside blocks = subst EachInside c.as_slice.ensures.value c.may_have.ensures.inside in
    let passed : may_have c.args.floor blocks ≡ true =
    (λ i. may_have (sym floor_is i) (sym c.as_slice.ensures.value i)) ∙ sym c.may_have.ensures.told ∙ c.if-not-may_have.false in
    let sound : IsSoundHead c.args.floor c.args.saved.now = subst (λ (z : ℤ). IsSoundHead z c.args.saved.now) floor_is c.in_ok-head.ensures.stands.sound in
    subst IsSoundSnapshot
    (λ i. record { blocks = map part_in (sym c.in-Ok.ensures.ok i).items; head = sym c.in_ok-head.ensures.series i; floor = sym floor_is i; copied = sym c.in_ok-head.ensures.copied i })
    (stands c.args.floor blocks c.args.saved.now inside passed sound)

pub returns-in-Ok-clause-made : goal.returns-in-Ok-clause-made
returns-in-Ok-clause-made c =
    let floor_is : to_z w64 (of_z w64 c.args.floor) ≡ c.args.floor = search rules in
    λ i. record { blocks = map part_in (c.in-Ok.ensures.ok i).items; head = c.in_ok-head.ensures.series i; floor = floor_is i; copied = c.in_ok-head.ensures.copied i }

pub returns-in-Ok-clause-stands : goal.returns-in-Ok-clause-stands
returns-in-Ok-clause-stands c =
    let floor_is : to_z w64 (of_z w64 c.args.floor) ≡ c.args.floor = search rules in
    let blocks : List Shown = c.args.blocks.items in
    let inside : EachInside blocks = subst EachInside c.as_slice.ensures.value c.may_have.ensures.inside in
    let passed : may_have c.args.floor blocks ≡ true =
    (λ i. may_have (sym floor_is i) (sym c.as_slice.ensures.value i)) ∙ sym c.may_have.ensures.told ∙ c.if-not-may_have.false in
    let sound : IsSoundHead c.args.floor c.args.saved.now = subst (λ (z : ℤ). IsSoundHead z c.args.saved.now) floor_is c.in_ok-head.ensures.stands.sound in
    record {
      sound = stands c.args.floor blocks c.args.saved.now inside passed sound;
      few = c.in_ok-head.ensures.stands.few;
    }
