use Rattle.std.proofs.Common.{rules, ◌≡◌, ◌<◌, ◌≤◌, [], length, subst}
use Rattle.std.proofs.lemmas.Result.{IfErr-weaker, err_from_is_err_and}
use Rattle.matchers.specs.Grammar.{IsSelector}
use Rattle.matchers.specs.Limits.{most_matchers}
use Rattle.matchers.proofs.Makings.{accepted_of, names_of, refused_of, unread_refused}
use Rattle.matchers.proofs.selector.Selector.parse_within.Goals as goal

pub returns-in_err-parts-clause-err : goal.returns-in_err-parts-clause-err
returns-in_err-parts-clause-err c =
    let p = err_from_is_err_and c.from_residual.result c.from_residual.ensures.1 in
    rw (p.1, p.2) (unread_refused c.args.limits c.args.text.now _ c.in_err-parts.ensures.err)

pub matchers-requires : goal.matchers-requires
matchers-requires c = names_of _ _ c.in_ok-parts.ensures.ok

pub returns-then-is_empty-clause-err : goal.returns-then-is_empty-clause-err
returns-then-is_empty-clause-err c =
    let none : c.in_ok-parts.parts.items ≡ [] = search rules in
    subst (IsSelector c.args.text.now) none c.in_ok-parts.ensures.ok

pub returns-then-len-most_matchers-clause-err : goal.returns-then-len-most_matchers-clause-err
returns-then-len-most_matchers-clause-err c = record {
  matchers = c.in_ok-parts.parts.items;
  selector = c.in_ok-parts.ensures.ok;
  many = search rules;
}

pub returns-clause-ok : goal.returns-clause-ok
returns-clause-ok c =
    let some : 0 < length c.in_ok-parts.parts.items = search rules in
    let few : length c.in_ok-parts.parts.items ≤ most_matchers c.args.limits = search rules in
    accepted_of c.args.limits c.args.text.now c.in_ok-parts.parts.items c.matchers.result
    c.matchers.ensures.ok c.matchers.ensures.made c.in_ok-parts.ensures.ok some few

pub returns-clause-err : goal.returns-clause-err
returns-clause-err c =
    let some : 0 < length c.in_ok-parts.parts.items = search rules in
    let few : length c.in_ok-parts.parts.items ≤ most_matchers c.args.limits = search rules in
    IfErr-weaker c.matchers.result _ _
    (λ e fault. refused_of c.args.limits c.args.text.now c.in_ok-parts.parts.items e
    c.in_ok-parts.ensures.ok some few fault) c.matchers.ensures.err
