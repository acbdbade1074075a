use Rattle.numbered_text.proofs.writing.numbered_text.Goals as goal

pub returns-in-Ok-clause-short : goal.returns-in-Ok-clause-short
returns-in-Ok-clause-short c few = c.in-Ok.ensures.short
