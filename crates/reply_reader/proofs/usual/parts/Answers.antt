use Rattle.std.proofs.Common.{◌≡◌, ◌∙◌, None, Some, ap, map, subst, arith}
use Rattle.std.proofs.lemmas.List.{map_push}
use Rattle.json.specs.Json.{after_end_array}
use Rattle.reply_reader.specs.Replies.{part_said, told_of_part}
use Rattle.reply_reader.specs.Usual.{Comes}
use Rattle.reply_reader.proofs.UsualTexts.{comes_shorter, items_turn, items_end}
use Rattle.reply_reader.proofs.usual.parts.Goals as goal

pub parts-smaller : goal.parts-smaller
parts-smaller c =
    let stays : c.take_end_array.new.self ≡ c.parts.reader = grind arith in
    let said = told_of_part c.in_ok-part.field-0 in
    comes_shorter part_said 5 c.parts.reader c.part.new.reader said
    (subst (λ r. Comes part_said 5 r said c.part.new.reader) stays c.in_ok-part.ensures)

pub parts-preserved : goal.parts-preserved
parts-preserved c =
    let going : after_end_array c.parts.reader ≡ None = grind arith in
    let stays : c.take_end_array.new.self ≡ c.parts.reader = grind arith in
    let said = told_of_part c.in_ok-part.field-0 in
    let done = c.parts.parts.items in
    items_turn part_said 5 c.begin_array.new.reader c.parts.reader c.part.new.reader
    (map told_of_part done) (map told_of_part c.push.new.self.items) said c.parts.invariant going
    (subst (λ r. Comes part_said 5 r said c.part.new.reader) stays c.in_ok-part.ensures)
    (ap (map told_of_part) c.in_ok-push.ensures.items
    ∙ map_push told_of_part done c.in_ok-part.field-0)

pub returns : goal.returns
returns c =
    let over : after_end_array c.parts.reader ≡ Some c.take_end_array.new.self = grind arith in
    items_end part_said 5 c.args.reader.now c.begin_array.new.reader c.parts.reader
    c.take_end_array.new.self (map told_of_part c.parts.parts.items) c.in_ok-begin_array.ensures
    c.parts.invariant over
