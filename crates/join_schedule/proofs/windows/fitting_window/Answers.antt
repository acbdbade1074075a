use Rattle.std.proofs.Common.{◌≡◌, ◌∙◌, subst, sym, true, false, List}
use Rattle.std.specs.Prelude.{ℤ}
use Rattle.std.proofs.lemmas.Int.{to_z-of_z}
use mir.Syntax.{w64}
use Rattle.join_schedule.specs.declared.blocks.Shape.{Shape}
use Rattle.join_schedule.specs.Blocks.{Fits, run_of}
use Rattle.join_schedule.specs.Windows.{IsWindow}
use Rattle.join_schedule.proofs.Runs.{same_blocks}
use Rattle.join_schedule.proofs.windows.fitting_window.Goals as goal

not_so : true ≡ false → ⊥
not_so b = cc

pub returns-in_err-run-clause-none : goal.returns-in_err-run-clause-none
returns-in_err-run-clause-none c =
    rw c.from_residual.ensures
    (λ run here filled.
    c.in_err-run.ensures.none filled.end run here
    (subst (λ (f : ℤ). IsWindow f c.args.blocks.now c.args.span filled.end run)
    (sym (to_z-of_z w64 c.args.floor c.ranges.floor)) filled.window))

pub returns-then-fits-clause-fills : goal.returns-then-fits-clause-fills
returns-then-fits-clause-fills c =
    let run = c.in_ok-run.run' in
    let back = to_z-of_z w64 c.args.floor c.ranges.floor in
    let w = c.in_ok-run.ensures.window in
    record {
      end = w.0;
      window = subst (λ (f : ℤ). IsWindow f c.args.blocks.now c.args.span w.0 run) back w.1;
      fits = subst (λ (f : ℤ). Fits c.args.limits.now f (run_of run c.args.blocks.now)) back
          (rw (← c.blocks_of.ensures) (c.fits.ensures.0 c.if-fits.true));
    }

pub returns-else-fits-clause-none : goal.returns-else-fits-clause-none
returns-else-fits-clause-none c =
    let run = c.in_ok-run.run' in
    let back = sym (to_z-of_z w64 c.args.floor c.ranges.floor) in
    λ other here filled.
    let count : other.count ≡ run.count =
    c.in_ok-run.ensures.only filled.end other here
    (subst (λ (f : ℤ). IsWindow f c.args.blocks.now c.args.span filled.end other) back
    filled.window) in
    let same : run_of other c.args.blocks.now ≡ c.blocks_of.result.now =
    same_blocks c.args.blocks.now run other (here ∙ sym c.in_ok-run.ensures.at) count
    ∙ sym c.blocks_of.ensures in
    not_so
    (sym (c.fits.ensures.1 (subst (λ (f : ℤ). Fits c.args.limits.now f c.blocks_of.result.now) back
    (subst (λ (s : List Shape). Fits c.args.limits.now c.args.floor s) same filled.fits)))
    ∙ c.if-fits.false)
