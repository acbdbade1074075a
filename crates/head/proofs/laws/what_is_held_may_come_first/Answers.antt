use Rattle.head.proofs.Words.{in_words, nothing_later}
use Rattle.head.proofs.laws.what_is_held_may_come_first.Goals as goal

pub returns-clause-words : goal.returns-clause-words
returns-clause-words c = λ s xs sound. in_words s 0 xs sound

pub returns-clause-later : goal.returns-clause-later
returns-clause-later c = λ s x sound above e l. nothing_later s x sound above e l
