use Rattle.exposition.proofs.Only.{only_in}
use Rattle.exposition.proofs.text.read_text.Goals as goal

pub returns-clause-only : goal.returns-clause-only
returns-clause-only c said is =
    only_in c.args.format c.args.places c.args.reading c.args.text.now c.read_lines.result said
    c.read_lines.ensures.found c.read_lines.ensures.refused is
