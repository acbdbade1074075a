use Rattle.std.proofs.Common.{List, ℕ, map}
use Rattle.postings.proofs.Choosing.{differs_in_choices}
use Rattle.postings.proofs.choice.differing_lists.Goals as goal

pub lists_of_choices-requires : goal.lists_of_choices-requires
lists_of_choices-requires g c =
    let texts : List (List ℕ) = map (λ text. text.now) c.in-Some.choices.items in
    let told = rw c.in-Some.is at c.in_ok-choices.ensures.told in
    let filled = rw c.in-Some.is at c.in_ok-choices.ensures.filled in
    let some = rw c.in-Some.is at c.in_ok-choices.ensures.some in
    rw c.deref.ensures.value (differs_in_choices c.args.matcher.now texts some.0 told filled)

pub returns-in-None : goal.returns-in-None
returns-in-None g c = rw (c.requires.same, c.name-in-None.ensures) at c.lists_of_values.ensures
