use Rattle.std.proofs.Common.{[]}
use Rattle.head.proofs.Sifts.{each_told, refused_there}
use Rattle.head.proofs.laws.each_sample_is_told.Goals as goal

pub returns-clause-each : goal.returns-clause-each
returns-clause-each c = λ w xs. each_told w 0 xs

pub returns-clause-refused : goal.returns-clause-refused
returns-clause-refused c = λ w xs. refused_there w [] xs
