use Rattle.std.proofs.Common.{◌≡◌, ◌<◌, ◌-◌, drop}
use Rattle.index_reader.specs.References.{references_in}
use Rattle.std.specs.Prelude.{nat_lt}
use Rattle.index_reader.specs.Layout.{rises}
use Rattle.index_reader.proofs.postings.is_rising.Given as goal

abbrev pub invariant-loop-at : goal.invariant-loop-at
invariant-loop-at l =
    (0 < l.at) × (rises nat_lt (drop (l.at - 1) (references_in l.bytes))
    ≡ rises nat_lt (references_in l.bytes))

abbrev pub decreases-loop-at : goal.decreases-loop-at
decreases-loop-at l = l.len - l.at
