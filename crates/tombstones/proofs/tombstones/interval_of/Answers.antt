use Rattle.std.specs.Int.{w64}
use Rattle.std.proofs.lemmas.Int.{to_z-of_z}
use Rattle.tombstones.proofs.Covers.{same_deletion}
use Rattle.tombstones.proofs.tombstones.interval_of.Goals as goal

pub returns : goal.returns
returns c =
    same_deletion _ c.args.reference _ _ c.args.from c.args.to c.number.ensures
    (to_z-of_z w64 c.args.from c.ranges.from) (to_z-of_z w64 c.args.to c.ranges.to)
