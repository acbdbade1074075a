use Rattle.std.proofs.Common.{◌≡◌, ◌++◌, drop}
use Rattle.labels.specs.Pairs.{texts_of}
use Rattle.index_reader.specs.Seen.{bytes_of}
use Rattle.block_writer.specs.InUse.{label_texts}
use Rattle.block_writer.proofs.symbols.texts_of_pairs.Given as goal

abbrev pub invariant-loop-i : goal.invariant-loop-i
invariant-loop-i l =
    bytes_of l.found.items ++ label_texts (drop l.i (texts_of l.pairs))
    ≡ label_texts (texts_of l.pairs)
