use Rattle.std.proofs.Common.{ap, refl, subst, ◌≡◌, IfOk}
use Rattle.std.proofs.lemmas.Result.{IfOk-weaker}
use Rattle.clap.specs.Matches.{found_of}
use Rattle.clap.specs.Words.{HasMatchesOf, app_of, is_simple_and_free, rows_of, matches_of, fault_of, FailsBy}
use Rattle.audit_command.specs.Asking.{texts_of}
use Rattle.explain.specs.Asking.{explain_app}
use Rattle.explain.proofs.command.matches_in.Goals as goal

pub returns-clause-ok : goal.returns-clause-ok
returns-clause-ok c =
    let texts = texts_of c.args.words.now in
    let is : app_of c.in_ok-program.field-0 ≡ explain_app = c.in_ok-program.ensures in
    let matched = subst (λ a. IfOk c.try_get_matches_from.result (HasMatchesOf a texts)) is c.try_get_matches_from.ensures.matches in
    IfOk-weaker c.try_get_matches_from.result (HasMatchesOf explain_app texts) (λ m. rows_of (found_of m) ≡ matches_of explain_app texts) (λ m h. (h refl).0) matched

pub returns-clause-fails : goal.returns-clause-fails
returns-clause-fails c =
    let is : app_of c.in_ok-program.field-0 ≡ explain_app = c.in_ok-program.ensures in
    subst (λ kinds. FailsBy kinds c.try_get_matches_from.result) (ap (λ a. fault_of a (texts_of c.args.words.now)) is)
    (c.try_get_matches_from.ensures.kinds (ap is_simple_and_free is))
