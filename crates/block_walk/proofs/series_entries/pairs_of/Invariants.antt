use Rattle.std.proofs.Common.{◌≡◌, ◌++◌, drop}
use Rattle.labels.specs.Pairs.{texts_of}
use Rattle.block_walk.specs.IndexFile.Seen.{texts}
use Rattle.block_walk.specs.IndexFile.Series.{named}
use Rattle.block_walk.proofs.series_entries.pairs_of.Given as goal

abbrev pub invariant-loop-at : goal.invariant-loop-at
invariant-loop-at l =
    texts_of l.pairs.items ++ drop l.at (named (texts l.symbols) l.labels)
    ≡ named (texts l.symbols) l.labels
