use Rattle.std.specs.Prelude.{[]}
use Rattle.head.specs.Blocks.{opening_of}
use Rattle.store_tests.proofs.serving.system.is_replied.Given as goal

-- the store that was just opened
abbrev pub ghosts-replies_of_two : goal.ghosts-replies_of_two
ghosts-replies_of_two g a = record { book = a.store.seen.book; opening = opening_of []; before = []; asked = λ event seat place. Unit {0}; kept = λ entries. Unit {0} }
