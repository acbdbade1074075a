use Rattle.std.proofs.Common.{arith}
use Rattle.head_record.proofs.Texts.{opening_is}
use Rattle.head_record.proofs.reading.read_opening.Goals as goal

pub returns-clause-found : goal.returns-clause-found
returns-clause-found c =
    opening_is c.args.content.now c.opening_of.result (λ i. omega (arith, c.type_inv.content i))
    c.opening_of.ensures
