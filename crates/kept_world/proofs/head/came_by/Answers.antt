use Rattle.std.proofs.Common.{arith}
use Rattle.kept_world.proofs.Gathering.{came_room}
use Rattle.kept_world.proofs.head.came_by.Goals as goal

pub push-requires-clause-few : goal.push-requires-clause-few
push-requires-clause-few c =
    let b = c.born.ensures in
    let room = came_room c.args.number c.args.series.now c.loop-one.one-index c.one-item.result c.loop-one.rows (omega arith) c.one-item.is (omega (arith, b, c.if-born-number.true)) c.loop-one.invariant in
    let few = c.requires in
    omega (arith, room, few)
