use Rattle.std.proofs.Common.{◌≡◌, ◌++◌, drop}
use Rattle.labels.specs.Pairs.{texts_of}
use Rattle.index_reader.specs.Seen.{strings_of}
use Rattle.index_reader.specs.Indexes.{named}
use Rattle.index_reader.proofs.series.pairs_of.Given as goal

abbrev pub invariant-loop-at : goal.invariant-loop-at
invariant-loop-at l =
    texts_of l.pairs.items ++ drop l.at (named (strings_of l.symbols.texts.items) l.labels)
    ≡ named (strings_of l.symbols.texts.items) l.labels
