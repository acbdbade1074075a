use Rattle.std.proofs.Common.{sym, ap, subst, ◌∙◌}
use Rattle.std.specs.Arc.{arc_value}
use Rattle.block.specs.declared.files.Files.{Files}
use Rattle.block.specs.Kept.{source_in}
use Rattle.block.specs.Packing.{ArePacked}
use Rattle.block.specs.Blocks.{Shown, sample_count}
use Rattle.block.proofs.Counts.{count_whole}
use Rattle.block.proofs.blocks.Block.sample_count.Goals as goal

pub count_live-requires : goal.count_live-requires
count_live-requires c =
    subst (λ (f : Files). ArePacked f.starts.items f.packed f.index) (sym c.deref.ensures)
    c.self.invariant.kept

pub returns : goal.returns
returns c =
    let b = c.self.inside in
    let f = arc_value b.files in
    let e = rw (c.deref.ensures) at c.count_live.ensures in
    count_whole b.range (source_in f) b.tombstones f.index.series c.count_live.result
    c.self.invariant.sound.stored c.self.invariant.sound.consistent.few e
    ∙ ap (λ (s : Shown). sample_count s.part) c.self.view_is
