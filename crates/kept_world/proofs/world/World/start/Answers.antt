use Rattle.kept_world.proofs.Bearing.{born_found}
use Rattle.kept_world.proofs.world.World.start.Goals as goal

pub returns-in-Some-clause-born : goal.returns-in-Some-clause-born
returns-in-Some-clause-born c =
    born_found c.args.head.items c.in_ok-head.field-0 c.in-Some.head c.in_ok-head.ensures c.in-Some.is
