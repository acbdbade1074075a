use Rattle.std.specs.Prelude.{[]}
use Rattle.head.specs.Blocks.{opening_of}
use Rattle.world_tests.proofs.many.each_answer_is_audited_while_others_change_the_store.Given as goal

-- the store that was just made
abbrev pub ghosts-accepted_by : goal.ghosts-accepted_by
ghosts-accepted_by g a = record { book = a.store.seen.book; opening = opening_of []; before = []; asked = λ event seat place. Unit {0}; kept = λ entries. Unit {0} }
