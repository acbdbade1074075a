use Rattle.std.proofs.Common.{◌≡◌, true}
use Rattle.labels.specs.Contents.{is_time}
use Rattle.numbered_text.specs.Reading.{sample_at}
use Rattle.numbered_text.proofs.Writes.{SoFar}
use Rattle.numbered_text.proofs.writing.number_each_sample.Given as goal

abbrev pub invariant-loop-counter : goal.invariant-loop-counter
invariant-loop-counter l = record {
  so_far : SoFar sample_at l.count l.counter l.fn.time l.time l.bytes l.rest l.fn.out.items
      l.out.items;
  dated : is_time l.time ≡ true;
}
