use Rattle.std.proofs.Common.{◌≡◌, map, sym, ◌∙◌, ap, subst, rules, to_z, of_z, w64}
use Rattle.std.specs.Arc.{arc_value}
use Rattle.head.specs.Blocks.{part_in}
use Rattle.head.specs.Heads.{SnapshotParts, IsSoundSnapshot}
use Rattle.head.specs.Removing.{blocks_kept, head_kept, survives}
use Rattle.head.specs.Snapshots.{parts_in}
use Rattle.head.proofs.Deleting.{less_is_sound}
use Rattle.head.proofs.deletion.snapshot_without.Goals as goal

pub invariant_of-result : goal.invariant_of-result
invariant_of-result c =
    let from_is : to_z w64 (of_z w64 c.args.from) ≡ c.args.from = search rules in
    let to_is : to_z w64 (of_z w64 c.args.to) ≡ c.args.to = search rules in
    let floor_is : to_z w64 (of_z w64 c.at.inside.floor) ≡ c.at.inside.floor = search rules in
    let s : SnapshotParts = parts_in c.at.inside in
    let ms = c.args.matchers.now in
    let blocks_are : map part_in (arc_value c.in_ok-new.field-0).items ≡ blocks_kept (survives ms c.args.from c.args.to) s.blocks =
    ap (λ v. map part_in v.items) c.in_ok-new.ensures.ok
    ∙ c.in_ok-blocks.ensures
    ∙ (λ i. blocks_kept (survives ms (from_is i) (to_is i)) (map part_in ((c.as_slice.ensures.value ∙ ap (λ v. v.items) c.deref.ensures) i))) in
    let head_is = c.in_ok-head.ensures.series
    ∙ (λ i. head_kept (survives ms (from_is i) (to_is i)) (sym c.at.view_is i).head) in
    subst IsSoundSnapshot
    (λ i. record { blocks = sym blocks_are i; head = sym head_is i; floor = sym floor_is i; copied = sym c.in_ok-head.ensures.copied i })
    (less_is_sound (survives ms c.args.from c.args.to) s c.at.invariant)
