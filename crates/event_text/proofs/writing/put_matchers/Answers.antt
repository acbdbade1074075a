use Rattle.std.proofs.Common.{◌≤◌, length, refl, arith}
use Rattle.std.proofs.lemmas.Option.{slice_get_read}
use Rattle.wire.specs.Spelling.{uvarint}
use Rattle.event_text.specs.Spelling.{matcher_text, IsMatcher}
use Rattle.event_text.proofs.Spelled.{all_next, all_whole}
use Rattle.event_text.proofs.Writes.{item_more}
use Rattle.event_text.proofs.writing.put_matchers.Goals as goal

pub loop-matcher-preserved : goal.loop-matcher-preserved
loop-matcher-preserved c =
    let ms = c.args.matchers.now in
    let l = c.loop-matcher in
    let i = l.matcher-index in
    let m = c.matcher-item.result in
    let h = slice_get_read ms (length ms) i m refl (omega (arith, c.loop-matcher-test.true)) c.matcher-item.is in (
      item_more matcher_text c.args.out.now.items (uvarint (length ms)) l.out.items _ ms i m h l.invariant.0
          c.in_ok-put_matcher.ensures.text,
      all_next IsMatcher ms i m h l.invariant.1 c.in_ok-put_matcher.ensures.spelled,
    )

pub returns-clause-spelled : goal.returns-clause-spelled
returns-clause-spelled c =
    let ms = c.args.matchers.now in
    let past : length ms ≤ c.loop-matcher.matcher-index = omega (arith, c.loop-matcher-test.false) in
    record {
      short = omega (arith, c.put_count.ensures.small);
      each = all_whole IsMatcher ms c.loop-matcher.matcher-index past c.loop-matcher.invariant.1;
    }
