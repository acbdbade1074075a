use Rattle.std.proofs.Common.{ap, subst, ◌≡◌, ◌∙◌}
use Rattle.std.proofs.lemmas.Result.{IfErr-weaker, IfOk-weaker}
use Rattle.clap.specs.Words.{app_of, is_simple, is_simple_and_free, subcommand_of, takes}
use Rattle.clap.specs.Words.{fault_of, FailsBy}
use Rattle.commands.specs.Lines.{querier_app, texts_of}
use Rattle.commands.proofs.command.matches_in.Goals as goal

pub returns-clause-ok : goal.returns-clause-ok
returns-clause-ok c =
    let is : app_of c.in_ok-querier.field-0 ≡ querier_app = c.in_ok-querier.ensures in
    IfOk-weaker c.try_get_matches_from.result _ _
    (λ m h. (h (ap is_simple is)).1 ∙ ap (λ a. subcommand_of a (texts_of c.args.words.now)) is)
    c.try_get_matches_from.ensures.matches

pub returns-clause-err : goal.returns-clause-err
returns-clause-err c =
    let is : app_of c.in_ok-querier.field-0 ≡ querier_app = c.in_ok-querier.ensures in
    IfErr-weaker c.try_get_matches_from.result _ _
    (λ e h taken. h (ap (λ a. takes a (texts_of c.args.words.now)) is ∙ taken))
    c.try_get_matches_from.ensures.passes

pub returns-clause-fails : goal.returns-clause-fails
returns-clause-fails c =
    let is : app_of c.in_ok-querier.field-0 ≡ querier_app = c.in_ok-querier.ensures in
    subst (λ kinds. FailsBy kinds c.try_get_matches_from.result)
    (ap (λ a. fault_of a (texts_of c.args.words.now)) is)
    (c.try_get_matches_from.ensures.kinds (ap is_simple_and_free is))
