use Rattle.std.proofs.Common.{ℕ, ◌≤◌, ◌<◌, arith, subst}
use Rattle.std.specs.Prelude.{ℤ}
use Rattle.std.proofs.lemmas.Int.{to_z-of_z}
use mir.Syntax.{w64}
use mir.Val.{to_z, of_z}
use Rattle.join_schedule.specs.Windows.{IsFirstWindow, NoWindowFits}
use Rattle.join_schedule.proofs.Spans.{reached_first, reached_next, is_window_span, is_first}
use Rattle.join_schedule.proofs.Spans.{longest_within, none_left}
use Rattle.join_schedule.proofs.windows.first_window.Goals as goal

pub loop-span-init : goal.loop-span-init
loop-span-init c =
    reached_first c.args.limits.now (to_z w64 (of_z w64 c.args.floor)) c.args.blocks.now c.saturating_mul-span.result
    c.requires c.saturating_mul-span.ensures

pub first_of_span-requires : goal.first_of_span-requires
first_of_span-requires c =
    let limits = c.args.limits.now in
    let floor = to_z w64 (of_z w64 c.args.floor) in
    let blocks = c.args.blocks.now in
    let span = c.loop-span.span in
    let reached = c.loop-span.invariant in
    let within = longest_within limits.longest_window span
    (subst (λ (n : ℕ). span ≤ n) c.longest_window-longest.ensures c.loop-span-test.true) in
    (reached.some, within.1)

pub returns-in-Some-clause-some : goal.returns-in-Some-clause-some
returns-in-Some-clause-some c =
    let limits = c.args.limits.now in
    let floor = to_z w64 (of_z w64 c.args.floor) in
    let blocks = c.args.blocks.now in
    let span = c.loop-span.span in
    let reached = c.loop-span.invariant in
    let within = longest_within limits.longest_window span
    (subst (λ (n : ℕ). span ≤ n) c.longest_window-longest.ensures c.loop-span-test.true) in
    subst (λ (f : ℤ). IsFirstWindow limits f blocks c.in-Some.run')
    (to_z-of_z w64 c.args.floor c.ranges.floor)
    (is_first limits floor blocks span reached within.1 c.in-Some.run'
    (is_window_span limits floor blocks span reached within.1 within.0) c.in-Some.ensures.fills
    c.in-Some.ensures.first)

pub loop-span-smaller : goal.loop-span-smaller
loop-span-smaller c =
    let limits = c.args.limits.now in
    let floor = to_z w64 (of_z w64 c.args.floor) in
    let blocks = c.args.blocks.now in
    let span = c.loop-span.span in
    let reached = c.loop-span.invariant in
    let within = longest_within limits.longest_window span
    (subst (λ (n : ℕ). span ≤ n) c.longest_window-longest.ensures c.loop-span-test.true) in
    omega (arith, reached.some, within.1, c.saturating_mul-span-in-loop-span.ensures)

pub loop-span-preserved : goal.loop-span-preserved
loop-span-preserved c =
    let limits = c.args.limits.now in
    let floor = to_z w64 (of_z w64 c.args.floor) in
    let blocks = c.args.blocks.now in
    let span = c.loop-span.span in
    let reached = c.loop-span.invariant in
    let within = longest_within limits.longest_window span
    (subst (λ (n : ℕ). span ≤ n) c.longest_window-longest.ensures c.loop-span-test.true) in
    reached_next limits floor blocks span reached within.1
    c.saturating_mul-span-in-loop-span.result c.saturating_mul-span-in-loop-span.ensures c.in_default.ensures.none

pub returns-clause-none : goal.returns-clause-none
returns-clause-none c =
    subst (λ (f : ℤ). NoWindowFits c.args.limits.now f c.args.blocks.now)
    (to_z-of_z w64 c.args.floor c.ranges.floor)
    (none_left c.args.limits.now (to_z w64 (of_z w64 c.args.floor)) c.args.blocks.now
    c.loop-span.span c.loop-span.invariant
    (subst (λ (n : ℕ). n < c.loop-span.span) c.longest_window-longest.ensures
    c.loop-span-test.false))
