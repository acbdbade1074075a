use Rattle.explain.proofs.answer.series_in.Goals as goal

pub returns-in-Err-NoSeries-clause-err : goal.returns-in-Err-NoSeries-clause-err
returns-in-Err-NoSeries-clause-err c = rw c.in-Err-NoSeries.field-0-is at c.in-Err-NoSeries.ensures.err
