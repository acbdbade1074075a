use Rattle.std.proofs.Common.{◌≡◌, sym, subst, rules, length}
use Rattle.std.proofs.lemmas.List.Sorted.{answers_always}
use Rattle.tombstones.specs.Order.{AreInOrder, beginning}
use Rattle.tombstones.proofs.Reaches.{ordered_by}
use Rattle.tombstones.proofs.tombstones.put_in_order.Goals as goal

pub set_reaches-requires-clause-in_order : goal.set_reaches-requires-clause-in_order
set_reaches-requires-clause-in_order c =
    subst AreInOrder (sym c.as_slice.ensures.value) (c.sort_unstable_by_key.ensures.sorted beginning
    (answers_always _ _ _ (λ f a r k q. search rules)))

pub invariant_of-result : goal.invariant_of-result
invariant_of-result c =
    let count : c.resize.new.self.len ≡ length c.sort_unstable_by_key.new.self.items =
    search rules in
    ordered_by c.sort_unstable_by_key.new.self.items c.as_slice.result.now _
    c.set_reaches.new.reaches _ c.as_slice.ensures.value count
    (c.sort_unstable_by_key.ensures.sorted beginning (answers_always _ _ _ (λ f a r k q.
    search rules))) c.set_reaches.ensures.each c.set_reaches.ensures.all
