use Rattle.std.specs.Prelude.{[]}
use Rattle.head.specs.Blocks.{opening_of}
use Rattle.commands.proofs.demo.demo_answer.Given as goal

-- the store that was just made
abbrev pub ghosts-answer_of : goal.ghosts-answer_of
ghosts-answer_of g a = record { book = a.store.seen.book; opening = opening_of []; before = []; asked = λ event seat place. Unit {0}; kept = λ entries. Unit {0} }
