use Rattle.std.specs.Prelude.{[]}
use Rattle.head.specs.Blocks.{opening_of}
use Rattle.store_tests.proofs.serving.connections.is_held.Given as goal

-- the store that was just opened
abbrev pub ghosts-is_session : goal.ghosts-is_session
ghosts-is_session g a = record { book = a.store.seen.book; opening = opening_of []; before = []; asked = λ event seat place. Unit {0}; kept = λ entries. Unit {0} }
