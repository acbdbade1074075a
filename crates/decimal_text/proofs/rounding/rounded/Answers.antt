use Rattle.decimal_text.proofs.NearestParts.{found_in, only_in}
use Rattle.decimal_text.proofs.rounding.rounded.Goals as goal

pub returns-clause-found : goal.returns-clause-found
returns-clause-found c =
    found_in c.args.text.now c.args.places c.args.shift c.read_rounded.result
    c.read_rounded.ensures.exact

pub returns-clause-only : goal.returns-clause-only
returns-clause-only c n lt x =
    only_in c.args.text.now c.args.places c.args.shift c.read_rounded.result n
    c.read_rounded.ensures.exact lt x
