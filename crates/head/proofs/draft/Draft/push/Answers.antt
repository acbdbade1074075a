use Rattle.std.proofs.Common.{length, ap, arith, [], ◌∷◌}
use Rattle.std.proofs.lemmas.List.{length-append}
use Rattle.std.specs.Ordering.{nat_cmp}
use Rattle.std.specs.BTreeMap.{get}
use Rattle.head.proofs.SlotLaws.{length-slots}
use Rattle.head.proofs.draft.Draft.push.Goals as goal

pub invariant_of-self-2 : goal.invariant_of-self-2
invariant_of-self-2 c =
    let size = ap length c.self.view_is in
    let more = ap length c.in_ok-push.ensures.items in (
      c.self.invariant.0,
      c.self.invariant.1,
      omega (
        arith,
        c.requires,
        size,
        more,
        length-append c.self.inside.begun.items (c.args.series ∷ []),
        length-slots c.self.inside.last (get nat_cmp c.self.inside.own) c.self.inside.begun.items,
      ),
    )
