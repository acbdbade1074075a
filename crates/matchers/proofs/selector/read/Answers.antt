use Rattle.std.proofs.Common.{◌-◌, length, ap}
use Rattle.matchers.proofs.Reaching.{goes_on, refused_at, refused_end, accepted, no_bytes}
use Rattle.matchers.proofs.selector.read.Goals as goal

pub returns-in_default-step-clause-err : goal.returns-in_default-step-clause-err
returns-in_default-step-clause-err c =
    refused_at _ _ _ _ c.in-Some.c _ _ c.loop-c.invariant c.in-Some.ensures.steps.0 (let h = c.in_default-step.ensures in let i = c.in_default-step.is in let k = c.step.ensures in cc)

pub loop-c-preserved : goal.loop-c-preserved
loop-c-preserved c =
    rw c.in_ok-take.ensures
    (goes_on _ _ _ _ c.in-Some-step.next c.in-Some-step.mark c.in-Some.c _ _ _ c.loop-c.invariant c.in-Some.ensures.steps.0
    (let h = c.in-Some-step.ensures in let i = c.in-Some-step.is in let a = c.in-Some-step.next-is in let b = c.in-Some-step.mark-is in let k = c.step.ensures in cc)
    (ap (λ x. length c.args.text.now - length x) c.as_str.ensures))

pub returns-in_default-end_mark-clause-err : goal.returns-in_default-end_mark-clause-err
returns-in_default-end_mark-clause-err c =
    refused_end _ _ _ _ _ c.loop-c.invariant (no_bytes _ c.in_default.ensures.steps.0.0)
    (let h = c.in_default-end_mark.ensures in let i = c.in_default-end_mark.is in let k = c.end_mark.ensures in cc)

pub returns-clause-ok : goal.returns-clause-ok
returns-clause-ok c =
    rw c.into_parts.ensures
    (accepted _ _ _ c.in-Some-end_mark.mark _ _ _ c.loop-c.invariant (no_bytes _ c.in_default.ensures.steps.0.0) (let h = c.in-Some-end_mark.ensures in let i = c.in-Some-end_mark.is in let k = c.end_mark.ensures in cc) c.in_ok-take-2.ensures)
