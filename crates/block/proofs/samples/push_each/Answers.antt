use Rattle.std.proofs.Common.{◌++◌, ℤ, List, ap, sym, subst, ◌∙◌, filter, arith}
use Rattle.block.specs.Kept.{source_in}
use Rattle.block.specs.Sound.{AreSamplesOf, IsHeldChunk}
use Rattle.block.proofs.Meeting.{held_met, kept_in_met}
use Rattle.block.proofs.Passing.{held_at}
use Rattle.block.proofs.Sourcing.{nowhere, packed_beside, source_at}
use Rattle.block.proofs.Wanting.{is_asked, chunk_kept, chunks_kept}
use Rattle.block.proofs.samples.push_each.Goals as goal

pub chunk_samples-samples-requires-clause-kept : goal.chunk_samples-samples-requires-clause-kept
chunk_samples-samples-requires-clause-kept c =
    let f = c.args.files.now in
    packed_beside (source_in f) f.packed c.args.first c.meeting_chunks-start.result.0
    c.meeting_chunks-start.result.1.now c.args.series.now c.requires.kept
    c.meeting_chunks-start.ensures.place

pub push_chunk-requires : goal.push_chunk-requires
push_chunk-requires c =
    let w = c.args.wanted.now in
    let source = source_in c.args.files.now in
    let met = c.meeting_chunks-start.result.1.now in
    let k = c.loop-k.k in
    subst (AreSamplesOf _)
    (sym (source_at source met k _ c.chunk_samples-samples.result c.loop-k-test.true
    c.chunk_samples-samples.ensures))
    (held_at (IsHeldChunk source) met k _ (omega arith) (held_met w.times.from w.times.to source
    c.args.series.now met c.meeting_chunks-start.ensures.met c.requires.held))

pub loop-k-preserved : goal.loop-k-preserved
loop-k-preserved c =
    let w = c.args.wanted.now in
    let source = source_in c.args.files.now in
    let met = c.meeting_chunks-start.result.1.now in
    let k = c.loop-k.k in
    chunk_kept w.tombstones.now w.reference w.times.from w.times.to source met k nowhere
    c.loop-k.found.items c.push_chunk.new.found.items _ (omega arith)
    (c.in_ok-push_chunk.ensures
    ∙ ap (λ (ss : List (ℤ × ℤ)). c.loop-k.found.items
    ++ filter (is_asked w.tombstones.now w.reference w.times.from w.times.to) ss)
    (source_at source met k nowhere c.chunk_samples-samples.result c.loop-k-test.true
    c.chunk_samples-samples.ensures)) c.loop-k.invariant

pub returns : goal.returns
returns c =
    let w = c.args.wanted.now in
    let source = source_in c.args.files.now in
    let met = c.meeting_chunks-start.result.1.now in
    chunks_kept w.tombstones.now w.reference w.times.from w.times.to source met c.loop-k.k
    c.loop-k.found.items _ (omega arith) c.loop-k.invariant
    ∙ ap (λ (ss : List (ℤ × ℤ)). c.args.found.now.items ++ ss)
    (kept_in_met w.tombstones.now w.reference w.times.from w.times.to source
    c.args.series.now met c.meeting_chunks-start.ensures.met c.requires.held)
