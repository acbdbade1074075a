use Rattle.std.proofs.Common.{◌≤◌, length, refl, arith}
use Rattle.std.proofs.lemmas.Option.{slice_get_read}
use Rattle.wire.specs.Spelling.{uvarint}
use Rattle.head_record.specs.Spelling.{place_text, IsPlace}
use Rattle.event_text.proofs.Spelled.{all_next, all_whole}
use Rattle.event_text.proofs.Writes.{item_more}
use Rattle.head_record.proofs.writing.put_places.Goals as goal

pub loop-place-preserved : goal.loop-place-preserved
loop-place-preserved c =
    let ms = c.args.places.now in
    let l = c.loop-place in
    let i = l.place-index in
    let m = c.place-item.result in
    let h = slice_get_read ms (length ms) i m refl (omega (arith, c.loop-place-test.true)) c.place-item.is in (
      item_more place_text c.args.out.now.items (uvarint (length ms)) l.out.items _ ms i m h l.invariant.0
          c.in_ok-put_place.ensures.text,
      all_next IsPlace ms i m h l.invariant.1 c.in_ok-put_place.ensures.spelled,
    )

pub returns-clause-spelled : goal.returns-clause-spelled
returns-clause-spelled c =
    let ms = c.args.places.now in
    let past : length ms ≤ c.loop-place.place-index = omega (arith, c.loop-place-test.false) in
    record {
      short = omega (arith, c.put_count.ensures.small);
      each = all_whole IsPlace ms c.loop-place.place-index past c.loop-place.invariant.1;
    }
