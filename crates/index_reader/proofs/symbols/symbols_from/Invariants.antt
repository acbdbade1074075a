use Rattle.std.proofs.Common.{◌≡◌, ◌-◌}
use Rattle.index_reader.specs.Reading.Symbols.{symbols_from}
use Rattle.index_reader.specs.Seen.{bytes_of}
use Rattle.index_reader.proofs.WalkLoops.{with_front}
use Rattle.index_reader.proofs.symbols.symbols_from.Given as goal

abbrev pub invariant-loop : goal.invariant-loop
invariant-loop l =
    with_front (bytes_of l.symbols.items) (symbols_from (l.count - l.counter) l.cut)
    ≡ symbols_from l.count l.fn.cut
