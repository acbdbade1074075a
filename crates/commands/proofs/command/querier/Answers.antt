use Rattle.std.proofs.Common.{ap, ap₂, refl, codes, ◌≡◌, ◌∙◌}
use Rattle.std.proofs.lemmas.Result.{IfOk-weaker}
use Rattle.clap.specs.Words.{App, app_of, new_app, with_subcommand}
use Rattle.commands.specs.Lines.{backup_app, named_app, check_app, select_app, journal_app}
use Rattle.commands.specs.ServingLines.{serve_app}
use Rattle.commands.proofs.CommandLines.{added_as, third_denied}
use Rattle.commands.proofs.command.querier.Goals as goal

pub returns : goal.returns
returns c =
    let first : app_of c.in_ok-command.command
    ≡ with_subcommand named_app (new_app (codes "demo")).top = c.in_ok-command.ensures.shape
    (third_denied _ _ _ _ (ap (λ (a : App). a.top.is_plain) c.demo.ensures))
    ∙ ap₂ with_subcommand c.in_ok-named.ensures (ap (λ (a : App). a.top) c.demo.ensures) in
    let second = added_as _ _ _ check_app c.check.result first c.check.ensures refl
    c.in_ok-command-2.ensures in
    let third = added_as _ _ _ select_app c.select.result second c.select.ensures refl
    c.in_ok-command-3.ensures in
    let fourth = added_as _ _ _ serve_app c.serve.result third c.serve.ensures refl
    c.in_ok-command-4.ensures in
    let fifth = added_as _ _ _ journal_app c.journal.result fourth c.journal.ensures refl
    c.in_ok-command-5.ensures in
    IfOk-weaker c.add-5.result _ _ (λ command.
    added_as _ _ _ backup_app c.backup.result fifth c.backup.ensures refl) c.add-5.ensures
