use Rattle.keeper.proofs.Texts.{of_record, together_more, too_long}
use Rattle.keeper.proofs.records.push_text.Goals as goal

pub returns-in-Ok-clause-ok : goal.returns-in-Ok-clause-ok
returns-in-Ok-clause-ok c events e so_far s =
    together_more events e c.args.text.now c.args.records.now.items c.push_record.new.records.items
    so_far s c.in-Ok.ensures.together

pub returns-in-Err-clause-long : goal.returns-in-Err-clause-long
returns-in-Err-clause-long c long =
    too_long c.in-Err.error c.keep_error.result c.keep_error.ensures c.in-Err.ensures.other long
    c.in-Err.ensures.size

pub returns-in-Err-clause-other : goal.returns-in-Err-clause-other
returns-in-Err-clause-other c =
    of_record c.in-Err.error c.keep_error.result c.keep_error.ensures c.in-Err.ensures.other
