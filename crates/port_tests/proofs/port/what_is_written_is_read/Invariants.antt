use Rattle.std.specs.Prelude.{[]}
use Rattle.head.specs.Blocks.{opening_of}
use Rattle.port_tests.proofs.port.what_is_written_is_read.Given as goal

-- the store that was just opened
abbrev pub ghosts-replies : goal.ghosts-replies
ghosts-replies g a = record { book = a.store.seen.book; opening = opening_of []; before = []; asked = λ event seat place. Unit {0}; kept = λ entries. Unit {0} }
