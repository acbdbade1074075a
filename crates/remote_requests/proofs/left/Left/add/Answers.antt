use Rattle.std.proofs.Common.{◌≡◌, ◌<◌, length, arith, rules}
use Rattle.remote_requests.proofs.Tallies.{adds_at}
use Rattle.remote_requests.proofs.left.Left.add.Goals as goal

pub returns : goal.returns
returns c =
    let len : length c.args.self.now.counts ≡ 9 = search rules in
    let within : c.place-place.result < length c.args.self.now.counts =
    omega (arith, len, c.place-place.ensures.below) in
    adds_at c.args.self.now c.args.why c.first_after-self.result c.args.count
    c.saturating_add.result c.place-place.result (omega arith) c.place-place.ensures.is within
    c.saturating_add.ensures c.first_after-self.ensures
