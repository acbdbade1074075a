use Rattle.std.proofs.Common.{◌∙◌, ap, subst, sym, List}
use Rattle.std.specs.Prelude.{ℤ}
use Rattle.std.proofs.lemmas.Int.{to_z-of_z}
use mir.Syntax.{w64}
use mir.Val.{to_z, of_z}
use Rattle.join_schedule.specs.declared.blocks.Shape.{Shape}
use Rattle.join_schedule.specs.Blocks.{Fits, samples_in}
use Rattle.join_schedule.specs.Neighbours.{pair_at}
use Rattle.join_schedule.proofs.neighbours.fitting_pair.Goals as goal

pub returns-in_err-samples-clause-none : goal.returns-in_err-samples-clause-none
returns-in_err-samples-clause-none c =
    rw c.from_residual.ensures
    (λ fits.
    c.in_err-samples.ensures.none
    (subst (λ (f : ℤ). Fits c.args.limits.now f c.blocks_of.result.now)
    (sym (to_z-of_z w64 c.args.floor c.ranges.floor))
    (subst (λ (s : List Shape). Fits c.args.limits.now c.args.floor s) (sym c.blocks_of.ensures) fits)))

pub returns-clause-samples : goal.returns-clause-samples
returns-clause-samples c =
    c.in_ok-samples.ensures.some.0 ∙ ap samples_in c.blocks_of.ensures

pub returns-clause-fits : goal.returns-clause-fits
returns-clause-fits c =
    subst (λ (f : ℤ). Fits c.args.limits.now f (pair_at c.args.at c.args.blocks.now))
    (to_z-of_z w64 c.args.floor c.ranges.floor)
    (subst (λ (s : List Shape). Fits c.args.limits.now (to_z w64 (of_z w64 c.args.floor)) s) c.blocks_of.ensures
    c.in_ok-samples.ensures.some.1)
