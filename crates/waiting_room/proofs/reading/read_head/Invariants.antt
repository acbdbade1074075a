use Rattle.std.proofs.Common.{◌≡◌, ◌⊎◌, ◌≤◌, ◌-◌, ◌+◌, [], vec_len}
use Rattle.std.specs.Io.KnownBytes.{Consumes}
use Rattle.httparse.specs.Grammar.{HasNoRequest, MayBecomeRequest}
use Rattle.waiting_room.proofs.reading.read_head.Given as goal

abbrev pub invariant-loop-buf : goal.invariant-loop-buf
invariant-loop-buf g l =
    (vec_len l.buf ≤ 8192)
    × Consumes (g.S.Source.input l.initial.source) (g.S.Source.input l.source) l.buf.items
    × (g.P.Purse.held l.purse ≡ g.P.Purse.held l.initial.purse + vec_len l.buf)
    × ((l.buf.items ≡ []) ⊎ (HasNoRequest l.buf.items × MayBecomeRequest l.buf.items))

abbrev pub decreases-loop-buf : goal.decreases-loop-buf
decreases-loop-buf g l = 8192 - vec_len l.buf
