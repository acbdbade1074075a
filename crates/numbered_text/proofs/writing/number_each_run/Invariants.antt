use Rattle.std.proofs.Common.{◌≡◌, true}
use Rattle.labels.specs.Contents.{is_time}
use Rattle.name_table.specs.Names.{BeginWith}
use Rattle.numbered_text.specs.Reading.{run_at}
use Rattle.numbered_text.proofs.Writes.{SoFar}
use Rattle.numbered_text.proofs.writing.number_each_run.Given as goal

abbrev pub invariant-loop-counter : goal.invariant-loop-counter
invariant-loop-counter l = record {
  so_far : SoFar run_at l.count l.counter (l.fn.names, l.fn.time) (l.names, l.time) l.bytes l.rest l.fn.out.items
      l.out.items;
  dated : is_time l.time ≡ true;
  begins : BeginWith l.fn.names l.names;
}
