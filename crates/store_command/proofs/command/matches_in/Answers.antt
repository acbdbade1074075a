use Rattle.std.proofs.Common.{ap, refl, subst, ◌≡◌, ◌∙◌, IfOk, true}
use Rattle.std.proofs.lemmas.Result.{IfOk-weaker}
use Rattle.clap.specs.Matches.{found_of}
use Rattle.clap.specs.Words.{HasMatchesOf, app_of, is_simple, is_simple_and_free, rows_of, matches_of, fault_of, FailsBy}
use Rattle.audit_command.specs.Asking.{texts_of}
use Rattle.store_command.specs.Asking.{app_for}
use Rattle.store_command.specs.declared.command.Aim.{Aim}
use Rattle.store_command.specs.declared.command.Aim.TheVariants as aims
use Rattle.store_command.proofs.command.matches_in.Goals as goal

are_simple : (aim : Aim) → is_simple (app_for aim) ≡ true
are_simple aims.Audit = refl
are_simple aims.Mark = refl

are_free : (aim : Aim) → is_simple_and_free (app_for aim) ≡ true
are_free aims.Audit = refl
are_free aims.Mark = refl

pub returns-clause-ok : goal.returns-clause-ok
returns-clause-ok c =
    let texts = texts_of c.args.words.now in
    let app = app_for c.args.aim in
    let is : app_of c.in_ok-program.field-0 ≡ app = c.in_ok-program.ensures in
    let matched = subst (λ a. IfOk c.try_get_matches_from.result (HasMatchesOf a texts)) is c.try_get_matches_from.ensures.matches in
    IfOk-weaker c.try_get_matches_from.result (HasMatchesOf app texts) (λ m. rows_of (found_of m) ≡ matches_of app texts) (λ m h. (h (are_simple c.args.aim)).0) matched

pub returns-clause-fails : goal.returns-clause-fails
returns-clause-fails c =
    let is : app_of c.in_ok-program.field-0 ≡ app_for c.args.aim = c.in_ok-program.ensures in
    subst (λ kinds. FailsBy kinds c.try_get_matches_from.result) (ap (λ a. fault_of a (texts_of c.args.words.now)) is)
    (c.try_get_matches_from.ensures.kinds (ap is_simple_and_free is ∙ are_free c.args.aim))
