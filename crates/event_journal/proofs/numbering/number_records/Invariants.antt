use Rattle.std.proofs.Common.{length}
use Rattle.name_table.specs.Names.{BeginWith}
use Rattle.event_journal.proofs.Records.{NumberedEach}
use Rattle.event_journal.proofs.numbering.number_records.Given as goal

abbrev pub invariant-loop-rest : goal.invariant-loop-rest
invariant-loop-rest l = record {
  each : NumberedEach l.fn.names l.records l.rest l.out.items l.names;
  begins : BeginWith l.fn.names l.names;
}

abbrev pub decreases-loop-rest : goal.decreases-loop-rest
decreases-loop-rest l = length l.rest
