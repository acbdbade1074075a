use Rattle.head.proofs.Sifts.{in_parts, alike}
use Rattle.head.proofs.laws.parts_are_as_the_whole.Goals as goal

pub returns-clause-parts : goal.returns-clause-parts
returns-clause-parts c = λ w parts. in_parts w 0 parts

pub returns-clause-places : goal.returns-clause-places
returns-clause-places c = λ w at xs. alike w at 0 xs
