use Rattle.std.specs.Prelude.{[]}
use Rattle.head.specs.Blocks.{opening_of}
use Rattle.store_tests.proofs.changes.first_pages.a_commit_is_seen_by_a_pass_that_learnt_no_receipt.Given as goal

-- the store that was just opened
abbrev pub ghosts-commit_and_look_untold : goal.ghosts-commit_and_look_untold
ghosts-commit_and_look_untold g a =
    record { book = a.store.seen.book; opening = opening_of []; before = []; asked = λ event seat place. Unit {0}; kept = λ entries. Unit {0} }
