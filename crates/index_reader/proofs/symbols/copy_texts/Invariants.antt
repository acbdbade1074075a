use Rattle.std.proofs.Common.{◌≡◌, ◌++◌, drop, length}
use Rattle.index_reader.specs.Seen.{bytes_of, strings_of}
use Rattle.index_reader.proofs.symbols.copy_texts.Given as goal

abbrev pub invariant-loop-at : goal.invariant-loop-at
invariant-loop-at l = record {
  counted : length l.copy.items ≡ l.at;
  so_far : strings_of l.copy.items ++ drop l.at (bytes_of l.symbols) ≡ bytes_of l.symbols;
}
