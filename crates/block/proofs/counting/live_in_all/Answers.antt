use Rattle.std.proofs.Common.{ℤ, List, length, ap, arith}
use Rattle.std.proofs.lemmas.Option.{slice_get-get_or}
use Rattle.block.specs.Kept.{source_in}
use Rattle.block.specs.Samples.{undeleted}
use Rattle.block.proofs.Counts.{chunks_next}
use Rattle.block.proofs.Sourcing.{nowhere, source_at}
use Rattle.block.proofs.counting.live_in_all.Goals as goal

pub loop-k-preserved : goal.loop-k-preserved
loop-k-preserved c =
    let l = c.loop-k in
    let source = source_in c.args.files.now in
    let cs = c.args.list.now in
    let ds = c.args.tombstones.now in
    let r = c.args.reference in
    omega (
      arith,
      c.saturating_add-count.ensures,
      c.live_in.ensures,
      l.invariant,
      ap (λ (ss : List (ℤ × ℤ)). length (undeleted ds r ss))
          (source_at source cs l.k nowhere c.chunk_samples-samples.result c.loop-k-test.true
          c.chunk_samples-samples.ensures),
      chunks_next ds r source cs l.k _ (slice_get-get_or cs l.k nowhere c.loop-k-test.true),
    )
