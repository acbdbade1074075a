use Rattle.std.proofs.Common.{◌≡◌, rules, arith}
use Rattle.std.specs.Prelude.{ℤ, pos, ◌+ℤ◌, ◌≤ℤ◌, ◌<ℤ◌, FitsSigned}
use Rattle.std.specs.Int.{int_rem_euclid}
use Rattle.std.proofs.lemmas.Int.{ints, to_z-of_z, to_z_pos}
use mir.Syntax.{w64}
use Rattle.join_schedule.specs.Windows.{IsMultiple}
use Rattle.join_schedule.proofs.Multiples.{rem_of, rem_is, next_multiple, next_is_near}
use Rattle.join_schedule.proofs.Multiples.{some_is, none_is, next_fits, fits_above_zero}
use Rattle.join_schedule.proofs.windows.window_end.Goals as goal

pub overflow_sub-ahead : goal.overflow_sub-ahead
overflow_sub-ahead c =
    let fits : FitsSigned w64 c.rem_euclid.result = search rules in
    let is : c.rem_euclid.result ≡ int_rem_euclid c.args.time (pos c.args.span) =
    rem_of c.rem_euclid.result _ _ c.args.time c.args.span c.rem_euclid.ensures.value
    (to_z_pos w64 c.args.span (omega (arith, c.requires.1)))
    (to_z-of_z w64 c.args.time c.ranges.time) in
    let near = rem_is c.args.span c.args.time c.rem_euclid.result c.requires.0 is in
    fits_above_zero _ (omega (arith, ints, fits.sfits, near.0, near.1, c.requires.1))
    (omega (arith, ints, fits.sfits, near.0, near.1, c.requires.1))

pub returns-clause-multiple : goal.returns-clause-multiple
returns-clause-multiple c =
    let fits : FitsSigned w64 c.rem_euclid.result = search rules in
    let is : c.rem_euclid.result ≡ int_rem_euclid c.args.time (pos c.args.span) =
    rem_of c.rem_euclid.result _ _ c.args.time c.args.span c.rem_euclid.ensures.value
    (to_z_pos w64 c.args.span (omega (arith, c.requires.1)))
    (to_z-of_z w64 c.args.time c.ranges.time) in
    let near = rem_is c.args.span c.args.time c.rem_euclid.result c.requires.0 is in
    some_is c.checked_add.result _ _ (IsMultiple c.args.span) c.checked_add.ensures
    (next_multiple c.args.span c.args.time _ c.rem_euclid.result c.requires.0 is
    (omega (arith, ints, fits.sfits, near.0, near.1, c.requires.1, c.ranges.time.sfits)))

pub returns-clause-next : goal.returns-clause-next
returns-clause-next c =
    let fits : FitsSigned w64 c.rem_euclid.result = search rules in
    let is : c.rem_euclid.result ≡ int_rem_euclid c.args.time (pos c.args.span) =
    rem_of c.rem_euclid.result _ _ c.args.time c.args.span c.rem_euclid.ensures.value
    (to_z_pos w64 c.args.span (omega (arith, c.requires.1)))
    (to_z-of_z w64 c.args.time c.ranges.time) in
    let near = rem_is c.args.span c.args.time c.rem_euclid.result c.requires.0 is in
    some_is c.checked_add.result _ _
    (λ (e : ℤ). (c.args.time <ℤ e) × (e ≤ℤ (c.args.time +ℤ pos c.args.span)))
    c.checked_add.ensures
    (next_is_near c.args.span c.args.time _ c.rem_euclid.result c.requires.0 is
    (omega (arith, ints, fits.sfits, near.0, near.1, c.requires.1, c.ranges.time.sfits)))

pub returns-clause-none : goal.returns-clause-none
returns-clause-none c =
    let fits : FitsSigned w64 c.rem_euclid.result = search rules in
    let is : c.rem_euclid.result ≡ int_rem_euclid c.args.time (pos c.args.span) =
    rem_of c.rem_euclid.result _ _ c.args.time c.args.span c.rem_euclid.ensures.value
    (to_z_pos w64 c.args.span (omega (arith, c.requires.1)))
    (to_z-of_z w64 c.args.time c.ranges.time) in
    let near = rem_is c.args.span c.args.time c.rem_euclid.result c.requires.0 is in
    none_is c.checked_add.result _ _ _ c.checked_add.ensures
    (λ no_room end multiple behind room.
    no_room (next_fits c.args.span c.args.time _ end c.rem_euclid.result c.requires.0 is
    (omega (arith, ints, fits.sfits, near.0, near.1, c.requires.1, c.ranges.time.sfits))
    multiple behind c.ranges.time room))
