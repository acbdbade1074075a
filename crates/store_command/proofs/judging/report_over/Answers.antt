use Rattle.store_command.proofs.OverStore.{judged_told, since_is, told_fault, told_report}
use Rattle.store_command.proofs.judging.report_over.Goals as goal

pub returns-in-Told-clause-ok : goal.returns-in-Told-clause-ok
returns-in-Told-clause-ok c =
    told_report c.args.query.now c.args.reply c.args.mark c.args.found c.of-since.result
    c.in_ok-parts.parts.items c.in_ok-parts.ensures
    (since_is c.args.mark c.args.found c.of-since.result c.changes.result.now c.changes.ensures c.of-since.ensures)
    c.in-Told.said
    (judged_told c.args.query.now c.args.reply c.args.found c.of-since.result c.in_ok-parts.parts.items
    c.in_ok-said.field-0 c.in-Told.said c.first.result c.first.ensures c.in-Told.is c.in_ok-said.ensures)
    c.told.result c.told.ensures

pub returns-in-Told-clause-err : goal.returns-in-Told-clause-err
returns-in-Told-clause-err c =
    told_fault c.args.query.now c.args.reply c.args.mark c.args.found c.of-since.result
    c.in_ok-parts.parts.items c.in_ok-parts.ensures
    (since_is c.args.mark c.args.found c.of-since.result c.changes.result.now c.changes.ensures c.of-since.ensures)
    c.in-Told.said
    (judged_told c.args.query.now c.args.reply c.args.found c.of-since.result c.in_ok-parts.parts.items
    c.in_ok-said.field-0 c.in-Told.said c.first.result c.first.ensures c.in-Told.is c.in_ok-said.ensures)
    c.told.result c.told.ensures
