use Rattle.std.proofs.Common.{◌-◌, ◌≤◌, vec_len}
use Rattle.waiting_room.specs.Coming.{IsReadInto}
use Rattle.waiting_room.proofs.reading.read_body.Given as goal

abbrev pub invariant-loop-buf : goal.invariant-loop-buf
invariant-loop-buf g l =
    IsReadInto (g.S.Source.input l.initial.source) (g.S.Source.input l.source) l.initial.buf.items
    l.buf.items
    × (vec_len l.buf ≤ g.P.Purse.held l.purse)

abbrev pub decreases-loop-buf : goal.decreases-loop-buf
decreases-loop-buf g l = l.whole - vec_len l.buf
