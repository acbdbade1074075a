use Rattle.event_text.proofs.RowTexts.{rows_spelled, rows_text}
use Rattle.event_text.proofs.RunLaws.{rows_filled}
use Rattle.event_text.proofs.Spelled.{on_ok}
use Rattle.event_text.proofs.writing.put_run_rows.Goals as goal

pub put_each_row-requires : goal.put_each_row-requires
put_each_row-requires c = rows_filled c.args.rows.now c.requires

pub returns-clause-text : goal.returns-clause-text
returns-clause-text c =
    on_ok c.put_each_row.result _ _
    (λ wrote. rows_text c.args.rows.now c.args.out.now.items c.put_u8.new.out.items
    c.put_each_row.new.out.items c.requires c.in_ok-put_u8.ensures.ok wrote)
    c.put_each_row.ensures.text

pub returns-clause-spelled : goal.returns-clause-spelled
returns-clause-spelled c =
    on_ok c.put_each_row.result _ _ (λ are. rows_spelled c.args.rows.now c.requires are)
    c.put_each_row.ensures.spelled
