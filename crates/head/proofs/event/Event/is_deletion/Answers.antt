use Rattle.std.specs.Prelude.{◌≡◌, length}
use Rattle.std.proofs.Common.{◌∙◌, rules, to_z, of_z, w64}
use Rattle.matchers.specs.Queries.{is_query_range}
use Rattle.head.proofs.EventTests.{with_few}
use Rattle.head.proofs.event.Event.is_deletion.Goals as goal

pub returns-then-matchers-le-MAX_MATCHERS : goal.returns-then-matchers-le-MAX_MATCHERS
returns-then-matchers-le-MAX_MATCHERS c =
    let from_is : to_z w64 (of_z w64 c.args.from) ≡ c.args.from = search rules in
    let to_is : to_z w64 (of_z w64 c.args.to) ≡ c.args.to = search rules in
    c.is_query_range.ensures
    ∙ (λ i. is_query_range (from_is i) (to_is i))
    ∙ with_few (length c.args.matchers.now) 16 _ c.if-matchers-le-MAX_MATCHERS.true
