use Rattle.std.proofs.Common.{arith}
use Rattle.kept_walk.specs.Contents.{SpellsOpening}
use Rattle.kept_walk.specs.Parts.{opening_in}
use Rattle.kept_walk.specs.Reading.{opening_of}
use Rattle.kept_walk.proofs.Contents.{finds, opening_found, opening_read}
use Rattle.kept_walk.proofs.heads.read_opening.Goals as goal

pub returns : goal.returns
returns c =
    finds opening_in (λ o. SpellsOpening c.args.content.now o.0 o.1) c.opening_of.result (opening_of c.args.content.now) c.opening_of.ensures
    (λ a. opening_found c.args.content.now a (λ i. omega (arith, c.type_inv.content i)))
    (opening_read c.args.content.now)
