use Rattle.std.proofs.Common.{rules, ◌≡◌, ap, arith, length}
use Rattle.snapshots.proofs.Counting.{fresh-snoc}
use Rattle.snapshots.proofs.store.seats_of.Goals as goal

pub loop-number-preserved : goal.loop-number-preserved
loop-number-preserved g c =
    let len : length c.loop-number.seats.items ≡ c.loop-number.number = search rules in (
      search rules,
      rw c.in_ok-push.ensures.items
          (fresh-snoc 0 c.loop-number.number c.loop-number.seats.items _
          c.loop-number.invariant.1 len
          (omega (arith, ap (λ z. z.number) c.new.ensures)) (ap (λ z. z.count) c.new.ensures)
          (ap (λ z. z.seen) c.new.ensures)),
    )
