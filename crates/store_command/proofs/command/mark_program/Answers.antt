use Rattle.std.proofs.Common.{ap₂, ◌∙◌}
use Rattle.std.proofs.lemmas.Result.{IfOk-weaker}
use Rattle.clap.specs.Words.{with_rule}
use Rattle.store_command.proofs.command.mark_program.Goals as goal

pub returns : goal.returns
returns c =
    IfOk-weaker c.arg-2.result _ _ (λ command h. h.shape c.mark.ensures.global
    ∙ ap₂ with_rule (c.in_ok-arg.ensures.shape c.store.ensures.global
    ∙ ap₂ with_rule c.in_ok-auditor.ensures c.store.ensures.rule) c.mark.ensures.rule) c.arg-2.ensures
