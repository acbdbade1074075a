use Rattle.std.proofs.Common.{◌≡◌, Some, None, IfOk, IfSome, IfNone, sym, subst}
use Rattle.text_choices.proofs.Steps.{spelled_grouped, spelled_bare, if_some_weaker, at_front}
use Rattle.text_choices.proofs.Law.{means_pattern}
use Rattle.text_choices.proofs.choice.read_choice.Goals as goal

pub returns-in-Some-clause-some : goal.returns-in-Some-clause-some
returns-in-Some-clause-some c =
    let h = c.in-Some.ensures.cases in
    subst (λ o. IfOk c.read_from.result (λ found. IfSome found (λ x. o ≡ Some x))) (sym (spelled_grouped _ _ (at_front _ _ _ h.1 h.2))) c.read_from.ensures.some

pub returns-in-Some-clause-none : goal.returns-in-Some-clause-none
returns-in-Some-clause-none c =
    let h = c.in-Some.ensures.cases in
    subst (λ o. IfOk c.read_from.result (λ found. IfNone found (o ≡ None))) (sym (spelled_grouped _ _ (at_front _ _ _ h.1 h.2))) c.read_from.ensures.none

pub returns-in-Some-clause-means : goal.returns-in-Some-clause-means
returns-in-Some-clause-means c =
    if_some_weaker c.read_from.result _ _ (λ a e. means_pattern _ _ c.utf8.pattern e) (returns-in-Some-clause-some c)

pub returns-in-None-clause-some : goal.returns-in-None-clause-some
returns-in-None-clause-some c =
    subst (λ o. IfOk c.read_from-in-None.result (λ found. IfSome found (λ x. o ≡ Some x))) (sym (spelled_bare _ c.utf8.pattern c.in-None.ensures.cases)) c.read_from-in-None.ensures.some

pub returns-in-None-clause-none : goal.returns-in-None-clause-none
returns-in-None-clause-none c =
    subst (λ o. IfOk c.read_from-in-None.result (λ found. IfNone found (o ≡ None))) (sym (spelled_bare _ c.utf8.pattern c.in-None.ensures.cases)) c.read_from-in-None.ensures.none

pub returns-in-None-clause-means : goal.returns-in-None-clause-means
returns-in-None-clause-means c =
    if_some_weaker c.read_from-in-None.result _ _ (λ a e. means_pattern _ _ c.utf8.pattern e) (returns-in-None-clause-some c)
