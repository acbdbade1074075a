use Rattle.std.proofs.Common.{◌≡◌, ◌++◌, drop}
use Rattle.std.specs.List.{flat_map}
use Rattle.index_reader.specs.Seen.{bytes_of}
use Rattle.index_reader.specs.Grammar.{symbol}
use Rattle.block_writer.specs.IndexText.{symbols_text}
use Rattle.block_writer.proofs.index_file.symbols_content.Given as goal

abbrev pub invariant-loop-symbol : goal.invariant-loop-symbol
invariant-loop-symbol l =
    l.content.items ++ flat_map symbol (drop l.symbol-index (bytes_of l.symbols))
    ≡ symbols_text (bytes_of l.symbols)
