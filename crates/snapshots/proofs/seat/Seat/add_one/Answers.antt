use Rattle.std.proofs.Common.{◌≡◌, take}
use Rattle.snapshots.specs.Marks.{accepted}
use Rattle.snapshots.proofs.Counting.{same_seen}
use Rattle.snapshots.proofs.Prefixes.{take_prefix}
use Rattle.snapshots.proofs.seat.Seat.add_one.Goals as goal

pub returns : goal.returns
returns g c =
    let seen : take c.events-self-inside.result (accepted c.share.result) ≡ c.args.receipt.now =
    rw (c.events-self-inside.ensures, c.share.ensures.same) (take_prefix c.args.receipt.now (accepted c.log.result.now) c.log.ensures) in
    rw (← c.self.view_is) (same_seen _ _ _ _ seen)
