use Rattle.std.proofs.Common.{arith}
use Rattle.kept_walk.specs.Contents.{SpellsSeries}
use Rattle.kept_walk.specs.Reading.{series_of}
use Rattle.kept_walk.proofs.Contents.{finds, series_found, series_read}
use Rattle.kept_walk.proofs.heads.read_series.Goals as goal

pub returns : goal.returns
returns c =
    finds (λ s. s) (SpellsSeries c.args.content.now) c.series_in.result (series_of c.args.content.now) c.series_in.ensures
    (λ a. series_found c.args.content.now a (λ i. omega (arith, c.type_inv.content i)))
    (series_read c.args.content.now)
