use Rattle.head.proofs.Sifts.{accepted, is_part}
use Rattle.head.proofs.laws.what_is_kept_is_accepted.Goals as goal

pub returns-clause-accepted : goal.returns-clause-accepted
returns-clause-accepted c = λ w xs. accepted w 0 0 xs

pub returns-clause-some : goal.returns-clause-some
returns-clause-some c = λ w xs. is_part w 0 xs
