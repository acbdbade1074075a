use Rattle.std.proofs.Common.{refl}
use Rattle.snapshots.specs.Plates.{with_version}
use Rattle.snapshots.proofs.Growing.{rises, overtaken}
use Rattle.snapshots.proofs.publishing.publish.Goals as goal

pub publish_as-press-requires : goal.publish_as-press-requires
publish_as-press-requires g c next is =
    let e = overtaken _ next c.args.next _ _ is c.in-Ok.ensures.pending in
    rw (e, c.in-Ok.ensures.desk) (rises g.J.Naming.book g.J.Naming.opening g.J.Naming.asked g.J.Naming.kept _ _
    c.args.press.desk.shown.value (with_version c.args.press.desk.shown.value c.args.next) refl c.requires.1 c.requires.0)
