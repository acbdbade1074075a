use Rattle.std.proofs.Common.{◌≡◌, true, map, subst, sym, ap, ◌∙◌, rules, to_z, of_z, w64}
use Rattle.labels.specs.Contents.{is_time}
use Rattle.head.specs.Heads.{IsSoundSnapshot}
use Rattle.head.specs.Blocks.{part_in, opening_floor, EachInside}
use Rattle.head.proofs.Opening.{opening_is_sound}
use Rattle.head.proofs.snapshot.Snapshot.opening.Goals as goal

pub invariant_of-result : goal.invariant_of-result
invariant_of-result c =
    let blocks = c.args.blocks.items in
    let stored : to_z w64 (of_z w64 c.floor_of-floor.result) ≡ c.floor_of-floor.result = search rules in
    let floor_is : opening_floor (map part_in blocks) ≡ to_z w64 (of_z w64 c.floor_of-floor.result) =
    sym (stored ∙ c.floor_of-floor.ensures.floor ∙ ap (λ bs. opening_floor (map part_in bs)) c.as_slice.ensures.value) in
    let time_is : is_time (opening_floor (map part_in blocks)) ≡ true =
    ap is_time (floor_is ∙ stored) ∙ c.floor_of-floor.ensures.time in
    subst IsSoundSnapshot
    (λ i. record { blocks = map part_in (sym c.in_ok-new.ensures.ok i).items; head = sym c.in_ok-head.ensures.series i; floor = floor_is i; copied = c.in_ok-head.head.copied })
    (opening_is_sound blocks c.in_ok-head.head.copied c.requires (subst EachInside c.as_slice.ensures.value c.floor_of-floor.ensures.inside) time_is)
