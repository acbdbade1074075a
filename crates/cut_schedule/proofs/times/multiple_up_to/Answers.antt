use Rattle.std.proofs.Common.{rules, arith, ap, subst, ◌≡◌, ◌∙◌}
use Rattle.std.specs.Prelude.{ℤ, pos, negsuc, ◌-ℤ◌, ◌≤ℤ◌, ◌<ℤ◌, FitsSigned, IfNone}
use Rattle.std.specs.Int.{int_rem_euclid}
use Rattle.std.proofs.lemmas.Int.{to_z-of_z, to_z_pos}
use mir.Syntax.{w64}
use mir.Val.{to_z, of_z}
use Rattle.cut_schedule.specs.Due.{IsMultiple}
use Rattle.cut_schedule.proofs.Multiples.{some_is, none_fits, multiple_below}
use Rattle.cut_schedule.proofs.times.multiple_up_to.Goals as goal

pub returns-clause-multiple : goal.returns-clause-multiple
returns-clause-multiple c =
    let time = to_z w64 (of_z w64 c.args.time) in
    let fits : FitsSigned w64 c.rem_euclid.result = search rules in
    let rest : to_z w64 (of_z w64 c.rem_euclid.result) ≡ int_rem_euclid time (pos c.args.every) =
    to_z-of_z w64 c.rem_euclid.result fits ∙ c.rem_euclid.ensures.value
    ∙ ap (int_rem_euclid time) (to_z_pos w64 c.args.every (omega (arith, c.requires.1))) in
    some_is c.checked_sub.result _ _ (IsMultiple c.args.every) c.checked_sub.ensures
    (multiple_below c.args.every time _ c.requires.0 (ap (λ x. time -ℤ x) rest))

pub returns-clause-none : goal.returns-clause-none
returns-clause-none c =
    let time = to_z w64 (of_z w64 c.args.time) in
    let fits : FitsSigned w64 c.rem_euclid.result = search rules in
    let rest : to_z w64 (of_z w64 c.rem_euclid.result) ≡ int_rem_euclid time (pos c.args.every) =
    to_z-of_z w64 c.rem_euclid.result fits ∙ c.rem_euclid.ensures.value
    ∙ ap (int_rem_euclid time) (to_z_pos w64 c.args.every (omega (arith, c.requires.1))) in
    subst (λ (x : ℤ). IfNone c.checked_sub.result ((t : ℤ) → IsMultiple c.args.every t → t ≤ℤ x
    → t <ℤ negsuc 9223372036854775807)) (to_z-of_z w64 c.args.time c.ranges.time)
    (none_fits c.checked_sub.result c.args.every time _ c.requires.0 (ap (λ x. time -ℤ x) rest)
    (search rules) c.checked_sub.ensures)
