use Rattle.std.proofs.Common.{ℤ, List, ◌++◌, filter, ap, ◌∙◌}
use Rattle.block.specs.Kept.{source_in}
use Rattle.block.specs.Samples.{samples_in}
use Rattle.block.proofs.Wanting.{is_asked}
use Rattle.block.proofs.Showing.{are_held, are_in_turn, are_kept, within_is}
use Rattle.block.proofs.blocks.Block.samples_at.Goals as goal

pub push_each-requires : goal.push_each-requires
push_each-requires c = record {
  held = are_held c.deref-files.result.now c.self.inside c.deref-files.ensures c.self.invariant
      c.args.i c.chunks_at.result.now c.chunks_at.ensures;
  in_turn = are_in_turn c.deref-files.result.now c.self.inside c.deref-files.ensures
      c.self.invariant c.args.i c.chunks_at.result.now c.chunks_at.ensures;
  kept = are_kept c.deref-files.result.now c.self.inside c.deref-files.ensures c.self.invariant
      c.args.i c.index.result.now c.chunks_at.result.now c.index.ensures c.chunks_at.ensures;
}

pub returns : goal.returns
returns c = λ row h.
    c.in_ok-push_each.ensures
    ∙ ap (λ (xs : List (ℤ × ℤ)). xs ++ filter (is_asked c.self.inside.tombstones
    c.reference_at.result c.args.times.from c.args.times.to)
    (samples_in (source_in c.deref-files.result.now) c.chunks_at.result.now)) c.new-found.ensures.items
    ∙ within_is c.deref-files.result.now c.self.inside c.args.self.now c.deref-files.ensures
    c.self.view_is c.args.times.from c.args.times.to c.args.i c.reference_at.result
    c.chunks_at.result.now row c.reference_at.ensures c.chunks_at.ensures h
