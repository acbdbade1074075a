use Rattle.std.proofs.Common.{ap, ◌∙◌}
use Rattle.std.specs.Arc.{arc_value}
use Rattle.std.specs.Int.{w64}
use Rattle.std.proofs.lemmas.Int.{to_z-of_z}
use Rattle.block.specs.declared.files.Files.{Files}
use Rattle.block.specs.Blocks.{Shown, part_of_series}
use Rattle.block.specs.Kept.{source_in}
use Rattle.block.specs.Fewer.{part_without}
use Rattle.block.proofs.Removed.{part_removed}
use Rattle.block.proofs.blocks.Block.without.Goals as goal

pub returns-clause-part : goal.returns-clause-part
returns-clause-part c =
    let b = c.self.inside in
    let f = arc_value b.files in
    let rs = c.args.references.now in
    let clone = c.in_ok-files.ensures in
    ap (λ (x : Files). part_of_series (source_in x) c.in_ok-tombstones.tombstones x.index.series)
    c.in_ok-files.ensures
    ∙ part_removed (source_in f) rs _ _ c.args.from c.args.to b.tombstones c.in_ok-tombstones.tombstones
    f.index.series (to_z-of_z w64 c.args.from c.ranges.from) (to_z-of_z w64 c.args.to c.ranges.to)
    c.in_ok-tombstones.ensures.ok
    ∙ ap (λ (s : Shown). part_without rs c.args.from c.args.to s.part) c.self.view_is
