use Rattle.std.proofs.Common.{arith}
use Rattle.tombstones.proofs.Begun.{by_reference}
use Rattle.tombstones.proofs.Covers.{has_at, has_none}
use Rattle.tombstones.proofs.tombstones.has_one_of.Goals as goal

pub returns-then-place-deletions : goal.returns-then-place-deletions
returns-then-place-deletions c =
    has_none c.args.deletions.now c.place_of-place.result c.args.reference
    c.place_of-place.ensures.below (λ j d le lt. absurd (omega (arith, le, lt)))

pub returns : goal.returns
returns c =
    has_at c.args.deletions.now c.place_of-place.result c.args.reference _
    (by_reference c.args.deletions.now c.requires) (omega arith) c.place_of-place.ensures.below
    c.place_of-place.ensures.above
