use Rattle.std.proofs.Common.{◌≡◌, None, Some, subst, arith}
use Rattle.json.specs.Json.{after_end_array}
use Rattle.reply_reader.specs.Replies.{reference_said}
use Rattle.reply_reader.specs.Usual.{Comes}
use Rattle.reply_reader.proofs.UsualTexts.{comes_shorter, items_turn, items_end}
use Rattle.reply_reader.proofs.usual.references.Goals as goal

pub references-smaller : goal.references-smaller
references-smaller c =
    let stays : c.take_end_array.new.self ≡ c.references.reader = grind arith in
    comes_shorter reference_said 0 c.references.reader c.reference.new.reader
    c.in_ok-reference.field-0
    (subst (λ r. Comes reference_said 0 r c.in_ok-reference.field-0 c.reference.new.reader) stays
    c.in_ok-reference.ensures)

pub references-preserved : goal.references-preserved
references-preserved c =
    let going : after_end_array c.references.reader ≡ None = grind arith in
    let stays : c.take_end_array.new.self ≡ c.references.reader = grind arith in
    items_turn reference_said 0 c.begin_array.new.reader c.references.reader c.reference.new.reader
    c.references.references.items c.push.new.self.items c.in_ok-reference.field-0
    c.references.invariant going
    (subst (λ r. Comes reference_said 0 r c.in_ok-reference.field-0 c.reference.new.reader) stays
    c.in_ok-reference.ensures)
    c.in_ok-push.ensures.items

pub returns : goal.returns
returns c =
    let over : after_end_array c.references.reader ≡ Some c.take_end_array.new.self = grind arith in
    items_end reference_said 0 c.args.reader.now c.begin_array.new.reader c.references.reader
    c.take_end_array.new.self c.references.references.items c.in_ok-begin_array.ensures
    c.references.invariant over
