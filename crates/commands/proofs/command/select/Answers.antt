use Rattle.std.proofs.Common.{rules, ap₂, codes, ◌≡◌, ◌∙◌}
use Rattle.std.proofs.lemmas.Result.{IfOk-weaker}
use Rattle.clap.specs.Words.{app_of, new_app, with_rule}
use Rattle.commands.proofs.command.select.Goals as goal

pub returns : goal.returns
returns c =
    let start_is : app_of c.after_help.result ≡ new_app (codes "select") = search rules in
    IfOk-weaker c.arg-5.result _ _ (λ command h. h.shape c.directories.ensures.global
    ∙ ap₂ with_rule (c.in_ok-arg-4.ensures.shape c.selector.ensures.global
    ∙ ap₂ with_rule (c.in_ok-arg-3.ensures.shape c.flag.ensures.global
    ∙ ap₂ with_rule (c.in_ok-arg-2.ensures.shape c.time-2.ensures.global
    ∙ ap₂ with_rule (c.in_ok-arg.ensures.shape c.time.ensures.global
    ∙ ap₂ with_rule start_is c.time.ensures.rule) c.time-2.ensures.rule) c.flag.ensures.rule)
    c.selector.ensures.rule) c.directories.ensures.rule) c.arg-5.ensures
