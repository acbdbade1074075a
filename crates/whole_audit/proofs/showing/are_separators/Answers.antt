use Rattle.std.proofs.Common.{sym, ◌∙◌}
use Rattle.labels.proofs.Times.{true_not_false}
use Rattle.whole_audit.proofs.Picked.{separators_picked, picked_separators, apart_separators, none_of, of_none}
use Rattle.whole_audit.proofs.showing.are_separators.Goals as goal

pub returns-then-are_picked-clause-separated : goal.returns-then-are_picked-clause-separated
returns-then-are_picked-clause-separated c =
    let part = c.args.series.now in
    let query = c.args.looks.now in
    let numbers = c.args.numbers.now in (
      λ h. separators_picked part query c.requires numbers
          (sym c.are_picked.ensures ∙ c.if-are_picked.true)
          (sym c.first_shared.ensures.shared
          ∙ none_of c.first_shared.result c.is_none.result c.is_none.ensures h),
      λ are. of_none c.first_shared.result c.is_none.result c.is_none.ensures
          (c.first_shared.ensures.shared ∙ apart_separators part query c.requires numbers are),
    )

pub returns-else-are_picked-clause-separated : goal.returns-else-are_picked-clause-separated
returns-else-are_picked-clause-separated c =
    let part = c.args.series.now in
    let numbers = c.args.numbers.now in (
      λ h. absurd (true_not_false (sym h ∙ c.if-are_picked.false)),
      λ are. absurd (true_not_false
          (sym (picked_separators part c.args.looks.now c.requires numbers are)
          ∙ sym c.are_picked.ensures ∙ c.if-are_picked.false)),
    )
