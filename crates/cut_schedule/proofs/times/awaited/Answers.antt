use Rattle.std.proofs.Common.{rules, arith}
use Rattle.std.specs.Prelude.{pos, ◌≤ℤ◌, ◌+ℤ◌, FitsSigned}
use Rattle.std.proofs.lemmas.Int.{ints, to_z-of_z}
use mir.Syntax.{w64}
use Rattle.cut_schedule.proofs.Multiples.{none_yet, at_most}
use Rattle.cut_schedule.proofs.times.awaited.Goals as goal

pub returns-in-Some : goal.returns-in-Some
returns-in-Some c =
    let time = c.in-Some.time in
    let fits : FitsSigned w64 time = search rules in
    let there : FitsSigned w64 c.saturating_add.result = search rules in
    let e = c.args.every in
    let a = c.args.after in
    let next : c.saturating_add.result ≤ℤ (time +ℤ pos e) =
    at_most _ _ (time +ℤ pos e) c.saturating_add.ensures
    (omega (arith, ints, fits.sfits, c.requires.every.1)) (omega (arith, ints, fits.sfits)) in
    let last : c.saturating_add-in-Some.result ≤ℤ (c.saturating_add.result +ℤ pos a) =
    at_most _ _ (c.saturating_add.result +ℤ pos a) c.saturating_add-in-Some.ensures
    (omega (arith, ints, there.sfits, c.requires.after)) (omega (arith, ints, there.sfits)) in
    λ newest now t early d.
    none_yet e a newest now c.args.floor c.saturating_add-in-Some.result time c.requires.every.0
    c.in-Some.ensures.multiple (rw (← to_z-of_z w64 c.args.floor c.ranges.floor)
    c.in-Some.ensures.below)
    (omega (arith, ints, next, last)) (rw (← to_z-of_z w64 c.saturating_add-in-Some.result (search rules)) early) t d
