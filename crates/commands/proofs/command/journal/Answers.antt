use Rattle.std.proofs.Common.{rules, ap₂, codes, ◌≡◌, ◌∙◌}
use Rattle.std.proofs.lemmas.Result.{IfOk-weaker}
use Rattle.clap.specs.Words.{app_of, new_app, with_rule}
use Rattle.commands.proofs.command.journal.Goals as goal

pub returns : goal.returns
returns c =
    let start_is : app_of c.after_help.result ≡ new_app (codes "journal") = search rules in
    IfOk-weaker c.arg.result _ _ (λ command h. h.shape c.path.ensures.global
    ∙ ap₂ with_rule start_is c.path.ensures.rule) c.arg.ensures
