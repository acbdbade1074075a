use Rattle.std.proofs.Common.{◌≡◌, ◌≤◌, arith, subst, sym}
use Rattle.std.specs.Prelude.{ℤ}
use Rattle.std.proofs.lemmas.Int.{to_z-of_z}
use mir.Syntax.{w64}
use Rattle.join_schedule.specs.Windows.{FillsWindow}
use Rattle.join_schedule.proofs.windows.first_of_span.Goals as goal

pub loop-at-init : goal.loop-at-init
loop-at-init c = λ run filled. omega arith

pub returns-in-Some-clause-fills : goal.returns-in-Some-clause-fills
returns-in-Some-clause-fills c =
    subst (λ (f : ℤ). FillsWindow c.args.limits.now f c.args.blocks.now c.args.span c.in-Some.run')
    (to_z-of_z w64 c.args.floor c.ranges.floor) c.in-Some.ensures.fills

pub returns-in-Some-clause-first : goal.returns-in-Some-clause-first
returns-in-Some-clause-first c =
    λ other filled.
    let not_less : c.loop-at.at ≤ other.at =
    c.loop-at.invariant other
    (subst (λ (f : ℤ). FillsWindow c.args.limits.now f c.args.blocks.now c.args.span other)
    (sym (to_z-of_z w64 c.args.floor c.ranges.floor)) filled) in
    omega (arith, not_less, c.in-Some.ensures.at)

pub loop-at-preserved : goal.loop-at-preserved
loop-at-preserved c =
    λ run filled.
    let not_less : c.loop-at.at ≤ run.at = c.loop-at.invariant run filled in
    let not_here : (run.at ≡ c.loop-at.at → ⊥) =
    λ here. c.in_default.ensures.none run here filled in
    omega (arith, not_less, not_here)

pub returns-clause-none : goal.returns-clause-none
returns-clause-none c =
    λ run filled.
    let not_less : c.loop-at.at ≤ run.at =
    c.loop-at.invariant run
    (subst (λ (f : ℤ). FillsWindow c.args.limits.now f c.args.blocks.now c.args.span run)
    (sym (to_z-of_z w64 c.args.floor c.ranges.floor)) filled) in
    let inside = filled.window.is_run.inside in
    let several = filled.window.is_run.several in
    omega (arith, not_less, inside, several, c.loop-at-test.false)
