use Rattle.std.proofs.Common.{◌≡◌, length, ap, arith, rules}
use Rattle.std.specs.Ordering.{nat_cmp}
use Rattle.std.specs.BTreeMap.{get}
use Rattle.head.proofs.SlotLaws.{length-slots}
use Rattle.head.proofs.draft.Draft.len.Goals as goal

pub returns-clause-count : goal.returns-clause-count
returns-clause-count c =
    let a : c.len.result ≡ length c.self.inside.last = c.len.ensures in
    let b : c.len-2.result ≡ length c.self.inside.begun.items = search rules in
    let size = ap length c.self.view_is in
    omega (arith, a, b, size, length-slots c.self.inside.last (get nat_cmp c.self.inside.own) c.self.inside.begun.items)

pub returns-clause-few : goal.returns-clause-few
returns-clause-few c =
    let size = ap length c.self.view_is in
    omega (arith, size, c.self.invariant.2, length-slots c.self.inside.last (get nat_cmp c.self.inside.own) c.self.inside.begun.items)
