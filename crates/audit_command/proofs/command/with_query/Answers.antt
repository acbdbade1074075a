use Rattle.std.proofs.Common.{refl, ap₂, ◌∙◌}
use Rattle.std.proofs.lemmas.Result.{IfOk-weaker}
use Rattle.clap.specs.Words.{with_rule}
use Rattle.audit_command.proofs.command.with_query.Goals as goal

pub returns : goal.returns
returns c =
    IfOk-weaker c.arg-3.result _ _ (λ command h. h.shape c.time-2.ensures.global
    ∙ ap₂ with_rule (c.in_ok-arg-2.ensures.shape c.time.ensures.global
    ∙ ap₂ with_rule (c.in_ok-arg.ensures.shape c.selector.ensures.global
    ∙ ap₂ with_rule refl c.selector.ensures.rule) c.time.ensures.rule) c.time-2.ensures.rule) c.arg-3.ensures
