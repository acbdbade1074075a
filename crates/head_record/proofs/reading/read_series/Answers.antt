use Rattle.std.proofs.Common.{arith}
use Rattle.head_record.proofs.Texts.{series_is}
use Rattle.head_record.proofs.reading.read_series.Goals as goal

pub returns-clause-found : goal.returns-clause-found
returns-clause-found c =
    series_is c.args.content.now c.series_of.result (λ i. omega (arith, c.type_inv.content i))
    c.series_of.ensures
