use Rattle.std.proofs.Common.{◌≡◌, rules, arith}
use Rattle.std.specs.Prelude.{pos, ◌+ℤ◌, ◌≤ℤ◌, ◌<ℤ◌, FitsSigned}
use Rattle.std.proofs.lemmas.Int.{ints}
use mir.Syntax.{w64}
use Rattle.join_schedule.proofs.Multiples.{fits_within}
use Rattle.join_schedule.proofs.expiring.has_expired.Goals as goal

pub returns-then-time-floor : goal.returns-then-time-floor
returns-then-time-floor c =
    let time = c.in-Some.time in
    let to = c.args.block.now.to in
    let fits : FitsSigned w64 time = search rules in
    let of_to : FitsSigned w64 to = search rules in
    let is : time ≡ to +ℤ pos c.args.keep =
    omega (arith, ints, c.in-Some.ensures.1, of_to.sfits) in
    let cut : time ≤ℤ c.args.floor = grind (arith, ints, c.if-time-floor.true) in (
      λ t.
          let passed : time ≤ℤ c.args.now = grind (arith, ints, t) in
          record { cut = omega (arith, ints, is, cut); passed = omega (arith, ints, is, passed) },
      λ e.
          let passed : time ≤ℤ c.args.now = omega (arith, ints, is, e.passed) in
          grind (arith, ints, passed),
    )

pub returns-else-time-floor : goal.returns-else-time-floor
returns-else-time-floor c =
    let time = c.in-Some.time in
    let to = c.args.block.now.to in
    let fits : FitsSigned w64 time = search rules in
    let of_to : FitsSigned w64 to = search rules in
    let is : time ≡ to +ℤ pos c.args.keep =
    omega (arith, ints, c.in-Some.ensures.1, of_to.sfits) in
    let late : c.args.floor <ℤ time = grind (arith, ints, c.if-time-floor.false) in
    (λ t. absurd cc, λ e. absurd (omega (arith, ints, is, late, e.cut)))

pub returns-in-None : goal.returns-in-None
returns-in-None c =
    let to = c.args.block.now.to in
    let of_to : FitsSigned w64 to = search rules in (
      λ t. absurd cc,
      λ e.
          absurd (c.in-None.ensures (fits_within to _ c.args.floor of_to c.ranges.floor
          (omega (arith, ints, of_to.sfits)) (omega (arith, ints, of_to.sfits, e.cut)))),
    )
