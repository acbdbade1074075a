use Rattle.exposition.specs.Reading.{texts_in}
use Rattle.exposition.proofs.Endings.{cut_open}
use Rattle.exposition.proofs.lines.open_lines.Goals as goal

pub returns-clause-found : goal.returns-clause-found
returns-clause-found c =
    cut_open (texts_in c.args.lines.items) (texts_in c.in_ok-front.front.items)
    (texts_in c.in_ok-rest.rest.items) c.in_ok-front.ensures c.in_ok-rest.ensures.found
