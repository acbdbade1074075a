use Rattle.commands.specs.Lines.{texts_of}
use Rattle.commands.proofs.LineEnds.{written_at_status}
use Rattle.commands.proofs.run.run.Goals as goal

pub returns-clause-nothing_written : goal.returns-clause-nothing_written
returns-clause-nothing_written g c =
    written_at_status (texts_of c.args.words.now) (g.W.Write.contents c.args.out.now)
    (g.W.Write.contents c.execute-end.new.out) c.execute-end.result c.status_of.result
    c.status_of.ensures c.execute-end.ensures.kept
