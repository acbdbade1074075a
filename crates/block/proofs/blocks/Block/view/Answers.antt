use Rattle.std.proofs.Common.{subst}
use Rattle.std.specs.Arc.{arc_value}
use Rattle.labels.specs.Parts.{IsPart}
use Rattle.block.specs.Blocks.{Shown}
use Rattle.block.specs.Kept.{source_in}
use Rattle.block.specs.CarriedPairs.{AreCarriedPairs}
use Rattle.block.proofs.Parts.{is_part}
use Rattle.block.proofs.Showing.{named_in}
use Rattle.block.proofs.blocks.Block.view.Goals as goal

pub invariant_of-result : goal.invariant_of-result
invariant_of-result c =
    let b = c.self.inside in
    let f = arc_value b.files in
    record {
      is_part =
          subst (λ (s : Shown). IsPart s.part) c.self.view_is
          (is_part b.range (source_in f) f.index b.tombstones c.self.invariant.sound);
      named =
          subst (λ (s : Shown). AreCarriedPairs s.part s.pairs) c.self.view_is
          (named_in (source_in f) b.tombstones f.index c.self.invariant.sound.consistent);
    }
