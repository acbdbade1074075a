use Rattle.std.specs.Prelude.{[]}
use Rattle.head.specs.Blocks.{opening_of}
use Rattle.store_tests.proofs.changes.refused_memory.changes_refused_memory_change_nothing_and_are_made_when_asked_again.Given as goal

-- the store that was just made
abbrev pub ghosts-count_in : goal.ghosts-count_in
ghosts-count_in g a = record { book = a.store.seen.book; opening = opening_of []; before = []; asked = λ event seat place. Unit {0}; kept = λ entries. Unit {0} }
