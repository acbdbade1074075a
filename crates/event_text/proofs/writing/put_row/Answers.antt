use Rattle.event_text.proofs.RowTexts.{row_is, row_text}
use Rattle.event_text.proofs.Spelled.{on_ok}
use Rattle.event_text.proofs.writing.put_row.Goals as goal

pub returns-clause-text : goal.returns-clause-text
returns-clause-text c =
    on_ok c.put_each_sample.result _ _
    (λ wrote. row_text c.args.row.now c.labels.result.now c.samples.result.now c.args.out.now.items
    c.put_labels.new.out.items c.put_each_sample.new.out.items c.labels.ensures c.samples.ensures
    c.in_ok-put_labels.ensures.text wrote) c.put_each_sample.ensures.text

pub returns-clause-spelled : goal.returns-clause-spelled
returns-clause-spelled c =
    on_ok c.put_each_sample.result _ _
    (λ are. row_is c.args.row.now c.labels.result.now c.samples.result.now c.labels.ensures
    c.samples.ensures c.requires c.in_ok-put_labels.ensures.spelled are)
    c.put_each_sample.ensures.spelled
