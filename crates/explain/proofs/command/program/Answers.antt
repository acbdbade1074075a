use Rattle.std.proofs.Common.{ap, ap₂, ◌∙◌}
use Rattle.std.proofs.lemmas.Result.{IfOk-weaker}
use Rattle.clap.specs.Words.{with_rule}
use Rattle.audit_command.specs.Asking.{with_arguments}
use Rattle.explain.proofs.command.program.Goals as goal

pub returns : goal.returns
returns c =
    IfOk-weaker c.arg-4.result _ _ (λ command h. h.shape c.store.ensures.global
    ∙ ap₂ with_rule (c.in_ok-arg-3.ensures.shape c.values.ensures.global
    ∙ ap₂ with_rule (c.in_ok-arg-2.ensures.shape c.text.ensures.global
    ∙ ap₂ with_rule (c.in_ok-arg.ensures.shape c.about.ensures.global
    ∙ ap₂ with_rule (c.in_ok-with_arguments.ensures ∙ ap with_arguments c.in_ok-explain.ensures) c.about.ensures.rule) c.text.ensures.rule) c.values.ensures.rule) c.store.ensures.rule) c.arg-4.ensures
