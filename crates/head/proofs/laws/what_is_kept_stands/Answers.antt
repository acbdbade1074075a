use Rattle.head.proofs.Sifts.{kept_stands, held_stands}
use Rattle.head.proofs.laws.what_is_kept_stands.Goals as goal

pub returns-clause-kept : goal.returns-clause-kept
returns-clause-kept c = λ w xs. kept_stands w 0 xs

pub returns-clause-held : goal.returns-clause-held
returns-clause-held c = λ w xs. held_stands w 0 xs
