use Rattle.std.proofs.Common.{rules, ◌≡◌, ◌∙◌, ap, List, map, length, to_z, of_z, w64}
use Rattle.std.proofs.lemmas.List.{length-map}
use Rattle.head.specs.Blocks.{part_in}
use Rattle.head.specs.Heads.{BlockPart}
use Rattle.head.specs.Joins.{blocks_joined}
use Rattle.head.specs.Snapshots.{parts_in}
use Rattle.head.proofs.JoinedRuns.{joins_inside}
use Rattle.head.proofs.joined_blocks.apply_joined.Goals as goal

pub invariant_of-result : goal.invariant_of-result
invariant_of-result c =
    let floor_is : to_z w64 (of_z w64 c.at.inside.floor) ≡ c.at.inside.floor = search rules in
    let made : List BlockPart = map part_in c.args.made.now in
    let slice_is = c.as_slice.ensures.value ∙ ap (λ v. v.items) c.deref.ensures in
    (joins_inside (parts_in c.at.inside) c.args.at.now
    (parts_in (record {
      blocks = c.in_ok-blocks.blocks;
      head = c.in_ok-head.head;
      floor = to_z w64 (of_z w64 c.at.inside.floor);
    }))
    c.args.place c.args.count (length c.args.made.now) made c.at.view_is
    (length-map c.args.made.now part_in) c.requires.within c.requires.fewer c.requires.same
    c.requires.ends c.at.invariant
    (c.in_ok-blocks.ensures
    ∙ (λ i. blocks_joined c.args.place c.args.count made (map part_in (slice_is i))))
    c.in_ok-head.ensures.series floor_is c.in_ok-head.ensures.copied).sound

pub returns-clause-ok : goal.returns-clause-ok
returns-clause-ok c =
    let floor_is : to_z w64 (of_z w64 c.at.inside.floor) ≡ c.at.inside.floor = search rules in
    let made : List BlockPart = map part_in c.args.made.now in
    let slice_is = c.as_slice.ensures.value ∙ ap (λ v. v.items) c.deref.ensures in
    (joins_inside (parts_in c.at.inside) c.args.at.now
    (parts_in (record {
      blocks = c.in_ok-blocks.blocks;
      head = c.in_ok-head.head;
      floor = to_z w64 (of_z w64 c.at.inside.floor);
    }))
    c.args.place c.args.count (length c.args.made.now) made c.at.view_is
    (length-map c.args.made.now part_in) c.requires.within c.requires.fewer c.requires.same
    c.requires.ends c.at.invariant
    (c.in_ok-blocks.ensures
    ∙ (λ i. blocks_joined c.args.place c.args.count made (map part_in (slice_is i))))
    c.in_ok-head.ensures.series floor_is c.in_ok-head.ensures.copied).step

pub returns-clause-kept : goal.returns-clause-kept
returns-clause-kept c =
    let floor_is : to_z w64 (of_z w64 c.at.inside.floor) ≡ c.at.inside.floor = search rules in
    let made : List BlockPart = map part_in c.args.made.now in
    let slice_is = c.as_slice.ensures.value ∙ ap (λ v. v.items) c.deref.ensures in
    (joins_inside (parts_in c.at.inside) c.args.at.now
    (parts_in (record {
      blocks = c.in_ok-blocks.blocks;
      head = c.in_ok-head.head;
      floor = to_z w64 (of_z w64 c.at.inside.floor);
    }))
    c.args.place c.args.count (length c.args.made.now) made c.at.view_is
    (length-map c.args.made.now part_in) c.requires.within c.requires.fewer c.requires.same
    c.requires.ends c.at.invariant
    (c.in_ok-blocks.ensures
    ∙ (λ i. blocks_joined c.args.place c.args.count made (map part_in (slice_is i))))
    c.in_ok-head.ensures.series floor_is c.in_ok-head.ensures.copied).kept

pub returns-clause-made : goal.returns-clause-made
returns-clause-made c =
    let floor_is : to_z w64 (of_z w64 c.at.inside.floor) ≡ c.at.inside.floor = search rules in
    let made : List BlockPart = map part_in c.args.made.now in
    let slice_is = c.as_slice.ensures.value ∙ ap (λ v. v.items) c.deref.ensures in
    (joins_inside (parts_in c.at.inside) c.args.at.now
    (parts_in (record {
      blocks = c.in_ok-blocks.blocks;
      head = c.in_ok-head.head;
      floor = to_z w64 (of_z w64 c.at.inside.floor);
    }))
    c.args.place c.args.count (length c.args.made.now) made c.at.view_is
    (length-map c.args.made.now part_in) c.requires.within c.requires.fewer c.requires.same
    c.requires.ends c.at.invariant
    (c.in_ok-blocks.ensures
    ∙ (λ i. blocks_joined c.args.place c.args.count made (map part_in (slice_is i))))
    c.in_ok-head.ensures.series floor_is c.in_ok-head.ensures.copied).is
