use Rattle.std.proofs.Common.{◌≡◌, ◌++◌, drop, length}
use Rattle.index_reader.specs.Seen.{bytes_of}
use Rattle.index_reader.proofs.agreement.copy_slices.Given as goal

abbrev pub invariant-loop-at : goal.invariant-loop-at
invariant-loop-at l = record {
  counted : length l.copy.items ≡ l.at;
  so_far : bytes_of l.copy.items ++ drop l.at (bytes_of l.lists) ≡ bytes_of l.lists;
}
