use Rattle.std.proofs.Common.{◌≡◌, ◌⊎◌, ◌≤◌, ◌-◌, [], vec_len}
use Rattle.std.specs.Io.KnownBytes.{Consumes}
use Rattle.httparse.specs.Grammar.{HasNoRequest, MayBecomeRequest}
use Rattle.requests.proofs.head.read_head.Given as goal

abbrev pub invariant-loop-buf : goal.invariant-loop-buf
invariant-loop-buf g l =
    (vec_len l.buf ≤ 8192)
    × Consumes (g.R.Inlet.input l.initial.reader) (g.R.Inlet.input l.reader) l.buf.items
    × (g.R.Inlet.failed_reads l.reader ≡ g.R.Inlet.failed_reads l.initial.reader)
    × ((l.buf.items ≡ []) ⊎ (HasNoRequest l.buf.items × MayBecomeRequest l.buf.items))

abbrev pub decreases-loop-buf : goal.decreases-loop-buf
decreases-loop-buf g l = 8192 - vec_len l.buf
