use Rattle.std.proofs.Common.{refl}
use Rattle.head.specs.Sifting.{sifted}
use Rattle.head.proofs.Sifts.{nothing_new, all_closed, again}
use Rattle.head.proofs.laws.again_changes_nothing.Goals as goal

pub returns-clause-kept : goal.returns-clause-kept
returns-clause-kept c = λ w xs. (nothing_new (sifted w xs).world 0 xs (all_closed w 0 xs)).0

pub returns-clause-world : goal.returns-clause-world
returns-clause-world c = λ w xs. (nothing_new (sifted w xs).world 0 xs (all_closed w 0 xs)).1

pub returns-clause-left : goal.returns-clause-left
returns-clause-left c = λ w xs shown. again w (sifted w xs).world 0 xs refl shown
