use Rattle.std.proofs.Common.{sym, ap, ◌∙◌, arith}
use Rattle.std.specs.List.{list_any}
use Rattle.block.specs.Kept.{source_in}
use Rattle.block.proofs.Sourcing.{nowhere, source_at}
use Rattle.block.proofs.Wanting.{is_asked, chunk_passed, chunk_found, chunks_ended}
use Rattle.block.proofs.samples.has_wanted_within.Goals as goal

pub loop-k-preserved : goal.loop-k-preserved
loop-k-preserved c =
    let w = c.args.wanted.now in
    let source = source_in c.args.files.now in
    let cs = c.args.chunks.now in
    let k = c.loop-k.k in
    let same =
    source_at source cs k nowhere c.chunk_samples.result c.loop-k-test.true c.chunk_samples.ensures in
    chunk_passed w.tombstones.now w.reference w.times.from w.times.to source cs k nowhere
    c.has_wanted.result (omega arith) (c.has_wanted.ensures
    ∙ ap (list_any (is_asked w.tombstones.now w.reference w.times.from w.times.to)) same)
    c.if-has_wanted.false
    ∙ c.loop-k.invariant

pub returns-then-has_wanted : goal.returns-then-has_wanted
returns-then-has_wanted c =
    let w = c.args.wanted.now in
    let source = source_in c.args.files.now in
    let cs = c.args.chunks.now in
    let k = c.loop-k.k in
    let same =
    source_at source cs k nowhere c.chunk_samples.result c.loop-k-test.true c.chunk_samples.ensures in
    sym (chunk_found w.tombstones.now w.reference w.times.from w.times.to source cs k nowhere
    c.has_wanted.result (omega arith) (c.has_wanted.ensures
    ∙ ap (list_any (is_asked w.tombstones.now w.reference w.times.from w.times.to)) same)
    c.if-has_wanted.true)
    ∙ c.loop-k.invariant

pub returns : goal.returns
returns c =
    let w = c.args.wanted.now in
    sym (chunks_ended w.tombstones.now w.reference w.times.from w.times.to
    (source_in c.args.files.now) c.args.chunks.now c.loop-k.k (omega arith))
    ∙ c.loop-k.invariant
