use Rattle.std.proofs.Common.{◌≡◌, None, Some, subst, arith}
use Rattle.json.specs.Json.{after_end_array}
use Rattle.reply_reader.specs.Replies.{interval_said}
use Rattle.reply_reader.specs.Usual.{Comes}
use Rattle.reply_reader.proofs.UsualTexts.{comes_shorter, items_turn, items_end}
use Rattle.reply_reader.proofs.usual.intervals.Goals as goal

pub intervals-smaller : goal.intervals-smaller
intervals-smaller c =
    let stays : c.take_end_array.new.self ≡ c.intervals.reader = grind arith in
    comes_shorter interval_said 1 c.intervals.reader c.interval.new.reader
    c.in_ok-interval.field-0
    (subst (λ r. Comes interval_said 1 r c.in_ok-interval.field-0 c.interval.new.reader) stays
    c.in_ok-interval.ensures)

pub intervals-preserved : goal.intervals-preserved
intervals-preserved c =
    let going : after_end_array c.intervals.reader ≡ None = grind arith in
    let stays : c.take_end_array.new.self ≡ c.intervals.reader = grind arith in
    items_turn interval_said 1 c.begin_array.new.reader c.intervals.reader c.interval.new.reader
    c.intervals.intervals.items c.push.new.self.items c.in_ok-interval.field-0
    c.intervals.invariant going
    (subst (λ r. Comes interval_said 1 r c.in_ok-interval.field-0 c.interval.new.reader) stays
    c.in_ok-interval.ensures)
    c.in_ok-push.ensures.items

pub returns : goal.returns
returns c =
    let over : after_end_array c.intervals.reader ≡ Some c.take_end_array.new.self = grind arith in
    items_end interval_said 1 c.args.reader.now c.begin_array.new.reader c.intervals.reader
    c.take_end_array.new.self c.intervals.intervals.items c.in_ok-begin_array.ensures
    c.intervals.invariant over
