use Rattle.commands.proofs.LineEnds.{end_without_memory, kept_at_end}
use Rattle.commands.specs.Lines.{texts_of}
use Rattle.commands.proofs.run.execute.Goals as goal

pub returns-in-OutOfMemory-clause-ends : goal.returns-in-OutOfMemory-clause-ends
returns-in-OutOfMemory-clause-ends g c = λ taken. end_without_memory _ _ _ taken

pub returns-in-Ok-clause-no_line : goal.returns-in-Ok-clause-no_line
returns-in-Ok-clause-no_line g c = λ none. absurd (none c.in-Ok.line c.in-Ok.ensures.ok)

pub returns-in-Ok-clause-kept : goal.returns-in-Ok-clause-kept
returns-in-Ok-clause-kept g c =
    kept_at_end (g.F.ReadFiles.may_read c.args.files.now) (texts_of c.args.words.now) c.in-Ok.line
    (g.W.Write.contents c.args.out.now) (g.W.Write.contents c.answer_line.new.out)
    c.answer_line.result c.in-Ok.ensures.ok c.answer_line.ensures
