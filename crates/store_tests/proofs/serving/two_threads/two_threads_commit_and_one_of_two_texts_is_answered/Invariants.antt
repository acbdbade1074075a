use Rattle.std.specs.Prelude.{[]}
use Rattle.head.specs.Blocks.{opening_of}
use Rattle.store_tests.proofs.serving.two_threads.two_threads_commit_and_one_of_two_texts_is_answered.Given as goal

-- the store that was just opened
abbrev pub ghosts-is_answered_after_both : goal.ghosts-is_answered_after_both
ghosts-is_answered_after_both g a = record { book = a.store.seen.book; opening = opening_of []; before = []; asked = λ event seat place. Unit {0}; kept = λ entries. Unit {0} }
