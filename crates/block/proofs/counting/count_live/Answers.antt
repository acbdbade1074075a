use Rattle.std.proofs.Common.{arith}
use Rattle.block.specs.Kept.{source_in}
use Rattle.block.proofs.Counts.{series_next}
use Rattle.block.proofs.Sourcing.{placed_at}
use Rattle.block.proofs.counting.count_live.Goals as goal

pub live_in_all-requires : goal.live_in_all-requires
live_in_all-requires c =
    let f = c.args.files.now in
    placed_at f.starts.items f.packed f.index c.requires c.loop-at.at c.index.result.now
    c.chunks_at.result.now c.index.ensures c.chunks_at.ensures

pub loop-at-preserved : goal.loop-at-preserved
loop-at-preserved c =
    let l = c.loop-at in
    omega (
      arith,
      c.saturating_add-count.ensures,
      c.live_in_all.ensures,
      l.invariant,
      series_next c.args.tombstones.now (source_in c.args.files.now) c.args.files.now.index.series
          l.at _ _ c.reference_at-reference.ensures c.chunks_at.ensures,
    )
