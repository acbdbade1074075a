use Rattle.std.proofs.Common.{◌≡◌, ◌<◌, None, Some, Greater, true, length, sym, subst, arith, rules}
use denote.Text.{Utf8}
use denote.Shadow.{shadow}
use Rattle.std.specs.Cmp.Lexicographic.{slice_cmp}
use Rattle.std.specs.Ordering.{nat_cmp}
use Rattle.json.specs.Json.{read_key}
use Rattle.labels.specs.LabelSets.{has_value}
use Rattle.labels.specs.Names.{is_name}
use Rattle.labels.specs.Pairs.{texts_of}
use Rattle.requests.proofs.UsualLabels.{LabelsSoFar, one_label_more, are_labels, texts_pushed}
use Rattle.requests.proofs.UsualLabels.{length_texts}
use Rattle.requests.proofs.UsualTexts.{PairsSoFar, pairs_turn, pairs_end}
use Rattle.requests.proofs.usual.read_pairs.Goals as goal

pub pairs-preserved : goal.pairs-preserved
pairs-preserved c =
    let name = c.in-Some.name.now in
    let value = c.in_ok-value.value.now in
    let done = texts_of c.pairs.pairs.items in
    let so_far = c.pairs.invariant in
    let utf8 : shadow (Utf8 name) = search rules in
    let key : read_key c.pairs.reader ≡ Some (Some name, c.next_key.new.self) = grind arith in
    let above : slice_cmp nat_cmp name c.pairs.last.now ≡ Greater = search rules in
    let named : is_name name ≡ true = search rules in
    let valued : has_value (name, value) ≡ true = search rules in
    let room : length c.pairs.pairs.items < 64 = grind (
      arith,
      so_far.2.few,
      length_texts
          c.pairs.pairs.items,
    ) in
    let grown = texts_pushed c.pairs.pairs.items c.push.new.self.items (
      c.in-Some.name,
      c.in_ok-value.value,
    ) c.in_ok-push.ensures.items in (
      utf8,
      subst (λ ps. PairsSoFar c.begin_object.new.reader ps c.text.new.reader) (sym grown)
          (pairs_turn c.begin_object.new.reader c.pairs.reader c.next_key.new.self c.text.new.reader
          done name value so_far.1 key c.in_ok-value.ensures (so_far.2.behind name above)),
      subst (LabelsSoFar name) (sym grown)
          (one_label_more c.pairs.last.now done (name, value) so_far.2 above named valued
          (omega (arith, room, length_texts c.pairs.pairs.items))),
    )

pub returns : goal.returns
returns c =
    let over : read_key c.pairs.reader ≡ Some (None, c.next_key.new.self) = grind arith in
    let done = texts_of c.pairs.pairs.items in
    let so_far = c.pairs.invariant in
    record {
      comes = pairs_end c.args.reader.now c.begin_object.new.reader c.pairs.reader
          c.next_key.new.self done c.in_ok-begin_object.ensures so_far.1 over;
      labels = are_labels c.pairs.last.now done so_far.2;
    }
