use Rattle.std.proofs.Common.{◌≡◌, ◌-◌, ◌≤◌, ◌⊎◌, vec_len}
use Rattle.requests.specs.Edge.{IsReadInto}
use Rattle.requests.proofs.read.read_body.Given as goal

abbrev pub invariant-loop-buf : goal.invariant-loop-buf
invariant-loop-buf g l =
    IsReadInto (g.R.Inlet.input l.initial.reader) (g.R.Inlet.input l.reader) l.initial.buf.items
    l.buf.items
    × (g.R.Inlet.failed_reads l.reader ≡ g.R.Inlet.failed_reads l.initial.reader)
    × ((vec_len l.buf ≤ vec_len l.initial.buf) ⊎ (vec_len l.buf ≤ l.end))

abbrev pub decreases-loop-buf : goal.decreases-loop-buf
decreases-loop-buf g l = l.end - vec_len l.buf
