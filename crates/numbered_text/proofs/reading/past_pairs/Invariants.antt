use Rattle.std.proofs.Common.{◌≡◌, ◌-◌, ◌≤◌, length}
use Rattle.numbered_text.specs.Reading.{past_pairs}
use Rattle.numbered_text.proofs.reading.past_pairs.Given as goal

abbrev pub invariant-loop-counter : goal.invariant-loop-counter
invariant-loop-counter l = record {
  read : past_pairs (l.count - l.counter) l.rest ≡ past_pairs l.count l.bytes;
  shorter : length l.rest ≤ length l.bytes;
}
