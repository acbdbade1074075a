use Rattle.std.proofs.Common.{[], ◌∷◌, subst}
use Rattle.block_folder.specs.declared.step.Step.{Step}
use Rattle.block_folder.specs.Steps.{call_of, DoesAll, DoesUpToOne}
use Rattle.block_folder.proofs.Calls.{does_none, does_one_more, fails_at_one, on_err}
use Rattle.block_folder.proofs.step.do_all.Goals as goal

pub loop-step-init : goal.loop-step-init
loop-step-init g c = does_none g.D.Disk.did _

pub loop-step-preserved : goal.loop-step-preserved
loop-step-preserved g c =
    does_one_more g.D.Disk.did _ _ _ c.args.steps.now c.loop-step.step-index c.step-item.result
    c.loop-step-test.true c.loop-step.invariant
    (subst (λ (s : Step). DoesAll g.D.Disk.did (call_of s ∷ []) c.loop-step.disk
    c.do_step.new.disk) c.step-item.is c.in_ok-do_step.ensures.ok)

pub returns-in_err-do_step-clause-err : goal.returns-in_err-do_step-clause-err
returns-in_err-do_step-clause-err g c =
    on_err c.from_residual.result _ (fails_at_one g.D.Disk.did _ _ _ c.args.steps.now
    c.loop-step.step-index c.step-item.result c.loop-step-test.true c.loop-step.invariant
    (subst (λ (s : Step). DoesUpToOne g.D.Disk.did (call_of s ∷ []) c.loop-step.disk
    c.do_step.new.disk) c.step-item.is c.in_err-do_step.ensures.err))
