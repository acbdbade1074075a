use Rattle.block_walk.proofs.IndexFile.Sound.{labels_inside}
use Rattle.block_walk.proofs.checked.checked_bodies.Goals as goal

pub is_rising-requires : goal.is_rising-requires
is_rising-requires c =
    rw (c.deref-4.ensures.value, c.deref-5.ensures.value)
    (labels_inside c.in_ok-bodies.bodies.labels.items c.in_ok-bodies.bodies.chunks.items
    c.in_ok-bodies.bodies.rows.items c.in_ok-bodies.ensures.inside)
