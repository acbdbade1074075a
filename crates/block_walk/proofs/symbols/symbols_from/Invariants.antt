use Rattle.std.proofs.Common.{◌≡◌, ◌-◌}
use Rattle.block_walk.specs.IndexFile.Reading.{symbols_from}
use Rattle.block_walk.specs.IndexFile.Seen.{texts}
use Rattle.block_walk.proofs.IndexFile.WalkLoops.{with_front}
use Rattle.block_walk.proofs.symbols.symbols_from.Given as goal

abbrev pub invariant-loop : goal.invariant-loop
invariant-loop l =
    with_front (texts l.symbols.items) (symbols_from (l.count - l.counter) l.rest)
    ≡ symbols_from l.count l.bytes
