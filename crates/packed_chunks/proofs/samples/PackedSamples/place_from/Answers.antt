use Rattle.std.proofs.Common.{◌+◌, ◌-◌, ◌/◌, ◌≤◌, arith, length}
use Rattle.std.proofs.lemmas.Int.{ints}
use Rattle.packed_chunks.proofs.samples.PackedSamples.place_from.Goals as goal

pub loop-low-preserved-then-time_at-time : goal.loop-low-preserved-then-time_at-time
loop-low-preserved-then-time_at-time c =
    let low = c.loop-low.low in
    let high = c.loop-low.high in
    let test = c.if-time_at-time.true in
    let here = c.time_at.ensures in
    record {
      order = omega arith;
      end = c.loop-low.invariant.end;
      before = λ k lt.
          let end : high ≤ length c.args.self.now = c.loop-low.invariant.end in
          let h = c.requires k (low + (high - low) / 2) (omega arith) (omega arith) in
          omega (arith, ints, h, test, here);
      from = c.loop-low.invariant.from;
    }

pub loop-low-preserved : goal.loop-low-preserved
loop-low-preserved c =
    let low = c.loop-low.low in
    let high = c.loop-low.high in
    let test = c.if-time_at-time.false in
    let here = c.time_at.ensures in
    record {
      order = omega arith;
      end = let end : high ≤ length c.args.self.now = c.loop-low.invariant.end in omega arith;
      before = c.loop-low.invariant.before;
      from = λ k le lt.
          let h = c.requires (low + (high - low) / 2) k le lt in
          omega (arith, ints, h, test, here);
    }
