use Rattle.std.proofs.Common.{◌≤◌, length, refl, arith}
use Rattle.std.proofs.lemmas.Option.{slice_get_read}
use Rattle.wire.specs.Spelling.{uvarint}
use Rattle.event_text.specs.Spelling.{sample_text, IsSample}
use Rattle.event_text.proofs.Spelled.{all_next, all_whole}
use Rattle.event_text.proofs.Writes.{item_more}
use Rattle.event_text.proofs.writing.put_each_sample.Goals as goal

pub loop-sample-preserved : goal.loop-sample-preserved
loop-sample-preserved c =
    let ms = c.args.samples.now in
    let l = c.loop-sample in
    let i = l.sample-index in
    let m = c.sample-item.result in
    let h = slice_get_read ms (length ms) i m refl (omega (arith, c.loop-sample-test.true)) c.sample-item.is in (
      item_more sample_text c.args.out.now.items (uvarint (length ms)) l.out.items _ ms i m h l.invariant.0
          c.in_ok-put_sample.ensures.text,
      all_next IsSample ms i m h l.invariant.1 c.in_ok-put_sample.ensures.spelled,
    )

pub returns-clause-spelled : goal.returns-clause-spelled
returns-clause-spelled c =
    let ms = c.args.samples.now in
    let past : length ms ≤ c.loop-sample.sample-index = omega (arith, c.loop-sample-test.false) in
    record {
      short = omega (arith, c.put_count.ensures.small);
      each = all_whole IsSample ms c.loop-sample.sample-index past c.loop-sample.invariant.1;
    }
