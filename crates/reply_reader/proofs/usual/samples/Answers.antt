use Rattle.std.proofs.Common.{◌≡◌, None, Some, subst, arith}
use Rattle.json.specs.Json.{after_end_array}
use Rattle.reply_reader.specs.Replies.{sample_said}
use Rattle.reply_reader.specs.Usual.{Comes}
use Rattle.reply_reader.proofs.UsualTexts.{comes_shorter, items_turn, items_end}
use Rattle.reply_reader.proofs.usual.samples.Goals as goal

pub samples-smaller : goal.samples-smaller
samples-smaller c =
    let stays : c.take_end_array.new.self ≡ c.samples.reader = grind arith in
    comes_shorter sample_said 1 c.samples.reader c.sample.new.reader
    c.in_ok-sample.field-0
    (subst (λ r. Comes sample_said 1 r c.in_ok-sample.field-0 c.sample.new.reader) stays
    c.in_ok-sample.ensures)

pub samples-preserved : goal.samples-preserved
samples-preserved c =
    let going : after_end_array c.samples.reader ≡ None = grind arith in
    let stays : c.take_end_array.new.self ≡ c.samples.reader = grind arith in
    items_turn sample_said 1 c.begin_array.new.reader c.samples.reader c.sample.new.reader
    c.samples.samples.items c.push.new.self.items c.in_ok-sample.field-0
    c.samples.invariant going
    (subst (λ r. Comes sample_said 1 r c.in_ok-sample.field-0 c.sample.new.reader) stays
    c.in_ok-sample.ensures)
    c.in_ok-push.ensures.items

pub returns : goal.returns
returns c =
    let over : after_end_array c.samples.reader ≡ Some c.take_end_array.new.self = grind arith in
    items_end sample_said 1 c.args.reader.now c.begin_array.new.reader c.samples.reader
    c.take_end_array.new.self c.samples.samples.items c.in_ok-begin_array.ensures
    c.samples.invariant over
