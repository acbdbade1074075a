use Rattle.head.proofs.Sifts.{kept_again, held_later}
use Rattle.head.proofs.laws.what_is_kept_is_held_later.Goals as goal

pub returns-clause-kept : goal.returns-clause-kept
returns-clause-kept c = λ w v xs ys e. kept_again w v xs ys e

pub returns-clause-held : goal.returns-clause-held
returns-clause-held c = λ w v xs ys e. held_later w v xs ys e
