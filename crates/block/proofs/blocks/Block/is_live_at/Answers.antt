use Rattle.std.proofs.Common.{◌∙◌}
use Rattle.block.proofs.Showing.{are_held, are_in_turn, are_kept, live_is}
use Rattle.block.proofs.blocks.Block.is_live_at.Goals as goal

pub is_any_wanted-requires : goal.is_any_wanted-requires
is_any_wanted-requires c = record {
  held = are_held c.deref-files.result.now c.self.inside c.deref-files.ensures c.self.invariant
      c.args.i c.chunks_at.result.now c.chunks_at.ensures;
  in_turn = are_in_turn c.deref-files.result.now c.self.inside c.deref-files.ensures
      c.self.invariant c.args.i c.chunks_at.result.now c.chunks_at.ensures;
  kept = are_kept c.deref-files.result.now c.self.inside c.deref-files.ensures c.self.invariant
      c.args.i c.index.result.now c.chunks_at.result.now c.index.ensures c.chunks_at.ensures;
}

pub returns : goal.returns
returns c =
    λ row h. c.is_any_wanted.ensures
    ∙ live_is c.deref-files.result.now c.self.inside c.args.self.now c.deref-files.ensures
    c.self.view_is c.args.times.from c.args.times.to c.args.i c.reference_at.result
    c.chunks_at.result.now row c.reference_at.ensures c.chunks_at.ensures h
