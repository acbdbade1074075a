use Rattle.std.proofs.Common.{rules, arith, ◌≡◌}
use Rattle.std.specs.Prelude.{pos, ◌-ℤ◌, ◌+ℤ◌, ◌≤ℤ◌, FitsSigned}
use Rattle.std.proofs.lemmas.Int.{ints, to_z-of_z}
use mir.Syntax.{w64}
use Rattle.cut_schedule.proofs.Multiples.{last_due, none_above, not_later, as_given}
use Rattle.cut_schedule.proofs.times.due.Goals as goal

pub returns-in_err-latest-clause-none : goal.returns-in_err-latest-clause-none
returns-in_err-latest-clause-none c =
    let first = c.earlier.result in
    let fits : FitsSigned w64 first = search rules in
    rw c.from_residual.ensures (λ t d.
    let early : (t +ℤ pos c.args.after) ≤ℤ first =
    not_later first c.args.newest c.args.now (t +ℤ pos c.args.after) (as_given _ _ _ c.ranges.newest c.ranges.now c.earlier.ensures) d.sampled d.passed in
    c.in_err-latest.ensures (record {
      sfits =
          omega (arith, ints, d.above, early, c.ranges.floor.sfits, fits.sfits, c.requires.after);
    }))

pub returns-in_err-time-clause-none : goal.returns-in_err-time-clause-none
returns-in_err-time-clause-none c =
    let first = c.earlier.result in
    let fits : FitsSigned w64 first = search rules in
    let is : c.in_ok-latest.latest ≡ first -ℤ pos c.args.after =
    omega (arith, ints, c.in_ok-latest.ensures.1, fits.sfits, c.requires.after) in
    rw c.from_residual-in_err-time.ensures (λ t d.
    let early : (t +ℤ pos c.args.after) ≤ℤ first =
    not_later first c.args.newest c.args.now (t +ℤ pos c.args.after) (as_given _ _ _ c.ranges.newest c.ranges.now c.earlier.ensures) d.sampled d.passed in
    omega (
      arith,
      ints,
      d.above,
      early,
      is,
      c.ranges.floor.sfits,
      c.in_err-time.ensures.none t d.multiple
          (omega (arith, ints, early, is)),
    ))

pub returns-then-time-floor-clause-last : goal.returns-then-time-floor-clause-last
returns-then-time-floor-clause-last c =
    let time = c.in_ok-time.time in
    let first = c.earlier.result in
    let fits : FitsSigned w64 time = search rules in
    let of_first : FitsSigned w64 first = search rules in
    let of_latest : FitsSigned w64 c.in_ok-latest.latest = search rules in
    let is : c.in_ok-latest.latest ≡ first -ℤ pos c.args.after =
    omega (arith, ints, c.in_ok-latest.ensures.1, of_first.sfits, c.requires.after) in
    rw (to_z-of_z w64 time fits)
    (last_due c.args.every c.args.after c.args.newest c.args.now c.args.floor first
    c.in_ok-latest.latest time c.requires.every.0 (as_given _ _ _ c.ranges.newest c.ranges.now c.earlier.ensures) c.in_ok-time.ensures.multiple
    (rw (← to_z-of_z w64 c.in_ok-latest.latest of_latest) c.in_ok-time.ensures.below) is
    (grind (arith, ints, c.if-time-floor.true)))

pub returns-else-time-floor-clause-none : goal.returns-else-time-floor-clause-none
returns-else-time-floor-clause-none c =
    let time = c.in_ok-time.time in
    let first = c.earlier.result in
    let of_first : FitsSigned w64 first = search rules in
    let of_latest : FitsSigned w64 c.in_ok-latest.latest = search rules in
    let is : c.in_ok-latest.latest ≡ first -ℤ pos c.args.after =
    omega (arith, ints, c.in_ok-latest.ensures.1, of_first.sfits, c.requires.after) in
    none_above c.args.every c.args.after c.args.newest c.args.now c.args.floor first
    c.in_ok-latest.latest time c.requires.every.0 (as_given _ _ _ c.ranges.newest c.ranges.now c.earlier.ensures) c.in_ok-time.ensures.multiple
    (rw (← to_z-of_z w64 c.in_ok-latest.latest of_latest) c.in_ok-time.ensures.below) is
    (grind (arith, ints, c.if-time-floor.false))
