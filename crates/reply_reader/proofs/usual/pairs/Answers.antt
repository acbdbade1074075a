use Rattle.std.proofs.Common.{◌≡◌, None, Some, Greater, ap, ◌∙◌, arith, rules}
use Rattle.std.proofs.lemmas.List.{map_push}
use denote.Text.{Utf8}
use denote.Shadow.{shadow}
use Rattle.std.specs.Cmp.Lexicographic.{slice_cmp}
use Rattle.std.specs.Ordering.{nat_cmp}
use Rattle.json.specs.Json.{read_key}
use Rattle.labels.specs.Pairs.{texts_of}
use Rattle.reply_reader.proofs.Replying.{pair_now}
use Rattle.reply_reader.proofs.UsualTexts.{pairs_turn, pairs_end}
use Rattle.reply_reader.proofs.usual.pairs.Goals as goal

pub pairs-preserved : goal.pairs-preserved
pairs-preserved c =
    let name = c.in-Some.name.now in
    let value = c.in_ok-value.value.now in
    let done = c.pairs.pairs.items in
    let utf8 : shadow (Utf8 name) = search rules in
    let key : read_key c.pairs.reader ≡ Some (Some name, c.next_key.new.self) = grind arith in
    let above : slice_cmp nat_cmp name c.pairs.last.now ≡ Greater = search rules in (
      utf8,
      pairs_turn c.begin_object.new.reader c.pairs.reader c.next_key.new.self c.text.new.reader
          c.pairs.last.now name value (texts_of done) (texts_of c.push.new.self.items)
          c.pairs.invariant.1 key c.in_ok-value.ensures above
          (ap texts_of c.in_ok-push.ensures.items
          ∙ map_push pair_now done (c.in-Some.name, c.in_ok-value.value)),
    )

pub returns : goal.returns
returns c =
    let over : read_key c.pairs.reader ≡ Some (None, c.next_key.new.self) = grind arith in
    pairs_end c.args.reader.now c.begin_object.new.reader c.pairs.reader c.next_key.new.self
    c.pairs.last.now (texts_of c.pairs.pairs.items) c.in_ok-begin_object.ensures
    c.pairs.invariant.1 over
