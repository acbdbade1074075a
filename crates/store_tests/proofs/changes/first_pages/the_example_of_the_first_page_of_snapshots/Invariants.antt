use Rattle.std.specs.Prelude.{[]}
use Rattle.head.specs.Blocks.{opening_of}
use Rattle.store_tests.proofs.changes.first_pages.the_example_of_the_first_page_of_snapshots.Given as goal

-- the store that was just opened
abbrev pub ghosts-commit_and_look : goal.ghosts-commit_and_look
ghosts-commit_and_look g a = record { book = a.store.seen.book; opening = opening_of []; before = []; asked = λ event seat place. Unit {0}; kept = λ entries. Unit {0} }
