use Rattle.std.proofs.Common.{◌+◌, sym, arith, rules}
use Rattle.std.specs.List.{AllByRecursion}
use Rattle.index_reader.specs.Indexes.{chunk_lists}
use Rattle.block.specs.Samples.{chunk_samples}
use Rattle.block.specs.Shared.{lists_between}
use Rattle.block.specs.Sound.{IsReadChunk}
use Rattle.block.proofs.Packs.{list_at, pack_next, pack_whole}
use Rattle.block.proofs.Shared.{between_at, between_length}
use Rattle.block.proofs.packing.pack_between.Goals as goal

pub loop-i-init : goal.loop-i-init
loop-i-init c = record {
  counted = search rules;
  whole = c.new-packed.ensures;
  begun = λ k lt. absurd (omega (arith, lt));
}

pub pack_list-requires : goal.pack_list-requires
pack_list-requires c =
    list_at (AllByRecursion (IsReadChunk c.args.chunks.now)) (chunk_lists c.args.index.now.series)
    (c.args.from + c.loop-i.i) c.chunks_at.result.now c.requires.read c.chunks_at.ensures

pub loop-i-preserved : goal.loop-i-preserved
loop-i-preserved c =
    let series = c.args.index.now.series in
    let at =
    between_at series c.args.from c.args.count c.loop-i.i _ c.requires.within (omega arith)
    c.chunks_at.ensures in
    pack_next (chunk_samples c.args.chunks.now) (lists_between series c.args.from c.args.count)
    c.loop-i.i c.len-first.result c.chunks_at.result.now c.loop-i.starts.items
    c.push.new.self.items c.loop-i.packed c.pack_list.new.packed c.loop-i.invariant at
    c.len-first.ensures c.in_ok-push.ensures.items c.in_ok-pack_list.ensures

pub returns-clause-pack : goal.returns-clause-pack
returns-clause-pack c =
    let series = c.args.index.now.series in
    let long = between_length series c.args.from c.args.count c.requires.within in
    pack_whole (chunk_samples c.args.chunks.now) (lists_between series c.args.from c.args.count)
    c.loop-i.i c.loop-i.starts.items c.loop-i.packed (omega (arith, sym long)) c.loop-i.invariant
