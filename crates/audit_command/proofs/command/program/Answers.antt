use Rattle.std.proofs.Common.{ap, ◌∙◌}
use Rattle.std.proofs.lemmas.Result.{IfOk-weaker}
use Rattle.audit_command.specs.Asking.{with_arguments}
use Rattle.audit_command.proofs.command.program.Goals as goal

pub returns : goal.returns
returns c =
    IfOk-weaker c.with_arguments.result _ _ (λ command h. h ∙ ap with_arguments c.in_ok-auditor.ensures) c.with_arguments.ensures
