use Rattle.std.proofs.Common.{length}
use Rattle.journal.specs.Contents.{contents_in}
use Rattle.journal.proofs.Loops.{Reads}
use Rattle.journal.proofs.recovery.records_of.Given as goal

abbrev pub invariant-records : goal.invariant-records
invariant-records l = Reads l.bytes (contents_in l.contents.items) l.rest

abbrev pub decreases-records : goal.decreases-records
decreases-records l = length l.rest
