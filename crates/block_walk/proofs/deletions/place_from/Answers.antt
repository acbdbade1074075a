use Rattle.std.proofs.Common.{◌≡◌, ◌+◌, ◌-◌, ◌/◌, ◌<◌, length, get_or, arith}
use Rattle.std.proofs.lemmas.List.{length-map}
use Rattle.std.proofs.lemmas.Option.{get_or_from_slice_get}
use Rattle.block_walk.specs.IndexFile.Series.{Series, references}
use Rattle.block_walk.proofs.BlockFiles.Places.{below_middle}
use Rattle.block_walk.proofs.deletions.place_from.Goals as goal

pub loop-low-preserved-then-number : goal.loop-low-preserved-then-number
loop-low-preserved-then-number c =
    let l = c.loop-low in
    let ss = c.args.entries.now in
    let m = l.low + (l.high - l.low) / 2 in
    let size : length (references ss) ≡ length ss = length-map ss (λ (s : Series). s.reference) in
    let less : c.reference_at-reference.result < c.args.target = omega arith in
    record {
      ordered = omega arith;
      inside = l.invariant.inside;
      below =
          λ k b. below_middle (references ss) m c.args.target c.reference_at-reference.result
          c.requires (omega arith) c.reference_at-reference.ensures less k (omega arith);
      above = l.invariant.above;
    }

pub loop-low-preserved : goal.loop-low-preserved
loop-low-preserved c =
    let l = c.loop-low in
    let ss = c.args.entries.now in
    let m = l.low + (l.high - l.low) / 2 in
    let here : get_or (references ss) m 0 ≡ c.reference_at-reference.result =
    get_or_from_slice_get (references ss) m c.reference_at-reference.result 0
    c.reference_at-reference.ensures in
    record {
      ordered = omega arith;
      inside = omega (arith, l.invariant.inside);
      below = l.invariant.below;
      above = λ _. omega arith;
    }
