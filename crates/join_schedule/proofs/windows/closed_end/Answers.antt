use Rattle.std.proofs.Common.{rules, arith, subst, sym}
use Rattle.std.specs.Prelude.{ℤ, pos, ◌+ℤ◌, ◌≤ℤ◌, ◌<ℤ◌, FitsSigned}
use Rattle.std.proofs.lemmas.Int.{ints, to_z-of_z}
use mir.Syntax.{w64}
use Rattle.join_schedule.proofs.Multiples.{not_before_next, fits_between}
use Rattle.join_schedule.proofs.windows.closed_end.Goals as goal

pub returns-in_err-end-clause-none : goal.returns-in_err-end-clause-none
returns-in_err-end-clause-none c =
    rw c.from_residual.ensures
    (λ end multiple behind near closed.
    c.in_err-end.ensures.none end multiple
    (subst (λ (t : ℤ). t <ℤ end) (sym (to_z-of_z w64 c.args.time c.ranges.time)) behind)
    (fits_between c.args.time end c.args.floor c.ranges.time c.ranges.floor behind closed))

pub returns-then-end-floor-clause-next : goal.returns-then-end-floor-clause-next
returns-then-end-floor-clause-next c =
    let fits : FitsSigned w64 c.in_ok-end.end = search rules in (
      omega (arith, ints, c.in_ok-end.ensures.next.0, c.ranges.time.sfits, fits.sfits),
      omega (arith, ints, c.in_ok-end.ensures.next.1, c.ranges.time.sfits, fits.sfits),
    )

pub returns-else-end-floor-clause-none : goal.returns-else-end-floor-clause-none
returns-else-end-floor-clause-none c =
    let first = c.in_ok-end.end in
    let fits : FitsSigned w64 first = search rules in
    let late : c.args.floor <ℤ first = grind (arith, ints, c.if-end-floor.false) in
    let close : first ≤ℤ (c.args.time +ℤ pos c.args.span) =
    omega (arith, ints, c.in_ok-end.ensures.next.1, c.ranges.time.sfits) in
    λ end multiple behind near closed.
    let before : first ≤ℤ end =
    not_before_next c.args.span c.args.time first end c.in_ok-end.ensures.multiple close multiple
    behind in
    omega (arith, ints, late, before, closed)
