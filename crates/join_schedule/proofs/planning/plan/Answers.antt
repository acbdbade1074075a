use Rattle.std.proofs.Common.{◌<◌, arith, subst, inl, inr, length}
use Rattle.std.specs.Prelude.{ℤ}
use Rattle.std.proofs.lemmas.Int.{to_z-of_z}
use Rattle.std.proofs.lemmas.Option.{IfSome_then}
use mir.Syntax.{w64}
use Rattle.join_schedule.specs.Blocks.{Fits, run_of}
use Rattle.join_schedule.specs.Windows.{IsFirstWindow, NoWindowFits}
use Rattle.join_schedule.specs.Neighbours.{AreLeastNeighbours, NoNeighboursFit}
use Rattle.join_schedule.proofs.Pairs.{none_then}
use Rattle.join_schedule.proofs.planning.plan.Goals as goal

pub returns-in-Some-clause-run : goal.returns-in-Some-clause-run
returns-in-Some-clause-run c = c.in-Some.ensures.some.fills.window.is_run

pub returns-in-Some-clause-fits : goal.returns-in-Some-clause-fits
returns-in-Some-clause-fits c =
    subst (λ (f : ℤ). Fits c.args.limits.now f (run_of c.in-Some.run' c.args.blocks.now))
    (to_z-of_z w64 c.args.floor c.ranges.floor) c.in-Some.ensures.some.fills.fits

pub returns-in-Some-clause-chosen : goal.returns-in-Some-clause-chosen
returns-in-Some-clause-chosen c =
    inl
    (subst (λ (f : ℤ). IsFirstWindow c.args.limits.now f c.args.blocks.now c.in-Some.run')
    (to_z-of_z w64 c.args.floor c.ranges.floor) c.in-Some.ensures.some)

pub returns-in-None-clause-run : goal.returns-in-None-clause-run
returns-in-None-clause-run c =
    IfSome_then c.least_neighbours.result c.least_neighbours.ensures.some (λ run l. l.is_run)

pub returns-in-None-clause-fits : goal.returns-in-None-clause-fits
returns-in-None-clause-fits c =
    IfSome_then c.least_neighbours.result c.least_neighbours.ensures.some
    (λ run l.
    subst (λ (f : ℤ). Fits c.args.limits.now f (run_of run c.args.blocks.now))
    (to_z-of_z w64 c.args.floor c.ranges.floor) l.fits)

pub returns-in-None-clause-chosen : goal.returns-in-None-clause-chosen
returns-in-None-clause-chosen c =
    let back = to_z-of_z w64 c.args.floor c.ranges.floor in
    let none : NoWindowFits c.args.limits.now c.args.floor c.args.blocks.now =
    subst (λ (f : ℤ). NoWindowFits c.args.limits.now f c.args.blocks.now) back
    c.in-None.ensures.none in
    let many : c.args.limits.now.many < length c.args.blocks.now =
    omega (arith, c.if-blocks-limits.true) in
    IfSome_then c.least_neighbours.result c.least_neighbours.ensures.some
    (λ run l.
    inr (
      many,
      none,
      subst (λ (f : ℤ). AreLeastNeighbours c.args.limits.now f c.args.blocks.now run) back l,
    ))

pub returns-in-None-clause-none : goal.returns-in-None-clause-none
returns-in-None-clause-none c =
    let back = to_z-of_z w64 c.args.floor c.ranges.floor in
    let none : NoWindowFits c.args.limits.now c.args.floor c.args.blocks.now =
    subst (λ (f : ℤ). NoWindowFits c.args.limits.now f c.args.blocks.now) back
    c.in-None.ensures.none in
    none_then c.least_neighbours.result _ _ c.least_neighbours.ensures.none
    (λ l. (
      none,
      λ many. subst (λ (f : ℤ). NoNeighboursFit c.args.limits.now f c.args.blocks.now) back l,
    ))

pub returns-in-None-2-clause-none : goal.returns-in-None-2-clause-none
returns-in-None-2-clause-none c = (
  subst (λ (f : ℤ). NoWindowFits c.args.limits.now f c.args.blocks.now)
      (to_z-of_z w64 c.args.floor c.ranges.floor) c.in-None-2.ensures.none,
  λ many. absurd (omega (arith, many, c.if-blocks-limits.false)),
)
