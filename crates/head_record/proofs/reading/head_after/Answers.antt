use Rattle.journal.specs.Contents.{contents_in}
use Rattle.head_record.specs.Views.{opening_in}
use Rattle.head_record.proofs.Contents.{first_read, first_refused}
use Rattle.head_record.proofs.reading.head_after.Goals as goal

pub returns-in-Err-clause-exact : goal.returns-in-Err-clause-exact
returns-in-Err-clause-exact c =
    first_refused c.args.first.now (contents_in c.args.others.now) c.in-Err.error
    c.in-Err.ensures.exact

pub returns-in-Ok-clause-exact : goal.returns-in-Ok-clause-exact
returns-in-Ok-clause-exact c =
    first_read c.args.first.now (contents_in c.args.others.now) (opening_in c.in-Ok.opening)
    c.with_series.result c.in-Ok.ensures.exact c.with_series.ensures.exact

pub returns-in-Ok-clause-found : goal.returns-in-Ok-clause-found
returns-in-Ok-clause-found c =
    c.with_series.ensures.found c.args.first.now c.in-Ok.ensures.found
