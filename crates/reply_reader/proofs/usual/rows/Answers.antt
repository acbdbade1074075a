use Rattle.std.proofs.Common.{◌≡◌, None, Some, subst, arith}
use Rattle.json.specs.Json.{after_end_array}
use Rattle.reply_reader.specs.Replies.{row_said}
use Rattle.reply_reader.specs.Usual.{Comes}
use Rattle.reply_reader.proofs.UsualTexts.{comes_shorter, items_turn, items_end}
use Rattle.reply_reader.proofs.usual.rows.Goals as goal

pub rows-smaller : goal.rows-smaller
rows-smaller c =
    let stays : c.take_end_array.new.self ≡ c.rows.reader = grind arith in
    comes_shorter row_said 3 c.rows.reader c.row.new.reader
    c.in_ok-row.field-0
    (subst (λ r. Comes row_said 3 r c.in_ok-row.field-0 c.row.new.reader) stays
    c.in_ok-row.ensures)

pub rows-preserved : goal.rows-preserved
rows-preserved c =
    let going : after_end_array c.rows.reader ≡ None = grind arith in
    let stays : c.take_end_array.new.self ≡ c.rows.reader = grind arith in
    items_turn row_said 3 c.begin_array.new.reader c.rows.reader c.row.new.reader
    c.rows.rows.items c.push.new.self.items c.in_ok-row.field-0
    c.rows.invariant going
    (subst (λ r. Comes row_said 3 r c.in_ok-row.field-0 c.row.new.reader) stays
    c.in_ok-row.ensures)
    c.in_ok-push.ensures.items

pub returns : goal.returns
returns c =
    let over : after_end_array c.rows.reader ≡ Some c.take_end_array.new.self = grind arith in
    items_end row_said 3 c.args.reader.now c.begin_array.new.reader c.rows.reader
    c.take_end_array.new.self c.rows.rows.items c.in_ok-begin_array.ensures
    c.rows.invariant over
