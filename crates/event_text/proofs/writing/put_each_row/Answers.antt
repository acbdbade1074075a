use Rattle.std.proofs.Common.{◌≤◌, length, refl, arith}
use Rattle.std.proofs.lemmas.Option.{slice_get_read}
use Rattle.wire.specs.Spelling.{uvarint}
use Rattle.event_text.specs.Spelling.{run_text, IsRun}
use Rattle.event_text.proofs.RunLaws.{filled_at}
use Rattle.event_text.proofs.Spelled.{all_next, all_whole}
use Rattle.event_text.proofs.Writes.{item_more}
use Rattle.event_text.proofs.writing.put_each_row.Goals as goal

pub put_row-requires : goal.put_row-requires
put_row-requires c =
    filled_at c.args.rows.now c.loop-row.row-index c.row-item.result
    (omega (arith, c.loop-row-test.true)) c.row-item.is c.requires

pub loop-row-preserved : goal.loop-row-preserved
loop-row-preserved c =
    let ms = c.args.rows.now in
    let l = c.loop-row in
    let i = l.row-index in
    let m = c.row-item.result in
    let h = slice_get_read ms (length ms) i m refl (omega (arith, c.loop-row-test.true)) c.row-item.is in (
      item_more run_text c.args.out.now.items (uvarint (length ms)) l.out.items _ ms i m h l.invariant.0
          c.in_ok-put_row.ensures.text,
      all_next IsRun ms i m h l.invariant.1 c.in_ok-put_row.ensures.spelled,
    )

pub returns-clause-spelled : goal.returns-clause-spelled
returns-clause-spelled c =
    let ms = c.args.rows.now in
    let past : length ms ≤ c.loop-row.row-index = omega (arith, c.loop-row-test.false) in
    record {
      short = omega (arith, c.put_count.ensures.small);
      each = all_whole IsRun ms c.loop-row.row-index past c.loop-row.invariant.1;
    }
