use Rattle.std.proofs.Common.{ap₂, ◌∙◌}
use Rattle.std.proofs.lemmas.Result.{IfOk-weaker}
use Rattle.clap.specs.Words.{with_rule}
use Rattle.commands.proofs.command.counts.Goals as goal

pub returns : goal.returns
returns c =
    IfOk-weaker c.arg-10.result _ _ (λ command h. h.shape c.count-9.ensures.global
    ∙ ap₂ with_rule (c.in_ok-arg-9.ensures.shape c.count-8.ensures.global
    ∙ ap₂ with_rule (c.in_ok-arg-8.ensures.shape c.count-7.ensures.global
    ∙ ap₂ with_rule (c.in_ok-arg-7.ensures.shape c.count-6.ensures.global
    ∙ ap₂ with_rule (c.in_ok-arg-6.ensures.shape c.count-5.ensures.global
    ∙ ap₂ with_rule (c.in_ok-arg-5.ensures.shape c.count-4.ensures.global
    ∙ ap₂ with_rule (c.in_ok-arg-4.ensures.shape c.count-3.ensures.global
    ∙ ap₂ with_rule (c.in_ok-arg-3.ensures.shape c.count-2.ensures.global
    ∙ ap₂ with_rule (c.in_ok-arg-2.ensures.shape c.count.ensures.global
    ∙ ap₂ with_rule (c.in_ok-arg.ensures.shape c.port.ensures.global
    ∙ ap₂ with_rule c.bare_serve.ensures c.port.ensures.rule) c.count.ensures.rule)
    c.count-2.ensures.rule) c.count-3.ensures.rule) c.count-4.ensures.rule) c.count-5.ensures.rule)
    c.count-6.ensures.rule) c.count-7.ensures.rule) c.count-8.ensures.rule)
    c.count-9.ensures.rule) c.arg-10.ensures
