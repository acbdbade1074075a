use Rattle.std.proofs.Common.{ap₂, ◌∙◌}
use Rattle.std.proofs.lemmas.Result.{IfOk-weaker}
use Rattle.clap.specs.Words.{with_rule}
use Rattle.commands.proofs.command.serve.Goals as goal

pub returns : goal.returns
returns c =
    IfOk-weaker c.arg-9.result _ _ (λ command h. h.shape c.directories.ensures.global
    ∙ ap₂ with_rule (c.in_ok-arg-8.ensures.shape c.flag-2.ensures.global
    ∙ ap₂ with_rule (c.in_ok-arg-7.ensures.shape c.text-3.ensures.global
    ∙ ap₂ with_rule (c.in_ok-arg-6.ensures.shape c.text-2.ensures.global
    ∙ ap₂ with_rule (c.in_ok-arg-5.ensures.shape c.flag.ensures.global
    ∙ ap₂ with_rule (c.in_ok-arg-4.ensures.shape c.count-3.ensures.global
    ∙ ap₂ with_rule (c.in_ok-arg-3.ensures.shape c.count-2.ensures.global
    ∙ ap₂ with_rule (c.in_ok-arg-2.ensures.shape c.count.ensures.global
    ∙ ap₂ with_rule (c.in_ok-arg.ensures.shape c.text.ensures.global
    ∙ ap₂ with_rule c.in_ok-counts.ensures c.text.ensures.rule) c.count.ensures.rule)
    c.count-2.ensures.rule) c.count-3.ensures.rule) c.flag.ensures.rule) c.text-2.ensures.rule)
    c.text-3.ensures.rule) c.flag-2.ensures.rule) c.directories.ensures.rule) c.arg-9.ensures
