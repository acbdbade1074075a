use Rattle.std.proofs.Common.{◌+◌, ◌≤◌, ◌++◌, length, arith}
use Rattle.wire.specs.Spelling.{uvarint}
use Rattle.event_text.specs.Runs.{values_in}
use Rattle.event_text.specs.Spelling.{sample_text, IsSample}
use Rattle.event_text.proofs.Spelled.{all_next, all_whole, length-values}
use Rattle.event_text.proofs.Writes.{item_more, samples_begun, samples_end, value_at}
use Rattle.event_text.proofs.writing.put_samples.Goals as goal

pub loop-sample-init : goal.loop-sample-init
loop-sample-init c = (
  samples_begun c.args.out.now.items _ _ (uvarint (length c.args.others.now + 1)) (sample_text c.args.first)
      c.in_ok-put_count.ensures.text c.in_ok-put_sample.ensures.text,
  tt,
)

pub loop-sample-preserved : goal.loop-sample-preserved
loop-sample-preserved c =
    let xs = c.args.others.now in
    let l = c.loop-sample in
    let i = l.sample-index in
    let x = c.sample-item.result in
    let h = value_at xs i x (omega (arith, c.loop-sample-test.true)) c.sample-item.is in (
      item_more sample_text c.args.out.now.items (uvarint (length xs + 1) ++ sample_text c.args.first)
          l.out.items _ (values_in xs) i x.1 h l.invariant.0 c.in_ok-put_sample-2.ensures.text,
      all_next IsSample (values_in xs) i x.1 h l.invariant.1 c.in_ok-put_sample-2.ensures.spelled,
    )

pub returns-clause-text : goal.returns-clause-text
returns-clause-text c =
    let past : length c.args.others.now ≤ c.loop-sample.sample-index = omega (arith, c.loop-sample-test.false) in
    samples_end c.args.out.now.items _ c.args.first c.args.others.now c.loop-sample.sample-index past
    c.loop-sample.invariant.0

pub returns-clause-spelled : goal.returns-clause-spelled
returns-clause-spelled c =
    let xs = c.args.others.now in
    let past : length (values_in xs) ≤ c.loop-sample.sample-index =
    omega (arith, c.loop-sample-test.false, length-values xs) in
    record {
      short = omega (arith, c.requires, length-values xs);
      each = (
        c.in_ok-put_sample.ensures.spelled,
        all_whole IsSample (values_in xs) c.loop-sample.sample-index past c.loop-sample.invariant.1,
      );
    }
