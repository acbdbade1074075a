use Rattle.std.proofs.Common.{ap₂, ◌∙◌}
use Rattle.std.proofs.lemmas.Result.{IfOk-weaker}
use Rattle.clap.specs.Words.{with_rule}
use Rattle.audit_command.proofs.command.with_arguments.Goals as goal

pub returns : goal.returns
returns c =
    IfOk-weaker c.arg.result _ _ (λ command h. h.shape c.directories.ensures.global
    ∙ ap₂ with_rule c.in_ok-with_query.ensures c.directories.ensures.rule) c.arg.ensures
