use Rattle.std.proofs.Common.{length}
use Rattle.std.proofs.Common.{◌≤◌, arith, rules}
use Rattle.event_text.specs.Spelling.{pair_text, IsPair}
use Rattle.event_text.proofs.Spelled.{all_next, all_whole}
use Rattle.labels.specs.LabelSets.{IsLabelSet}
use Rattle.event_text.proofs.Writes.{item_more}
use Rattle.wire.specs.Spelling.{uvarint}
use Rattle.event_text.proofs.writing.put_labels.Goals as goal

pub loop-i-preserved : goal.loop-i-preserved
loop-i-preserved c = (
  item_more pair_text c.args.out.now.items (uvarint (length c.args.labels.now)) c.loop-i.out.items
      c.put_pair.new.out.items c.args.labels.now c.loop-i.i _ c.pair.ensures c.loop-i.invariant.0
      c.in_ok-put_pair.ensures.text,
  all_next IsPair c.args.labels.now c.loop-i.i _ c.pair.ensures c.loop-i.invariant.1
      c.in_ok-put_pair.ensures.spelled,
)

pub returns-clause-spelled : goal.returns-clause-spelled
returns-clause-spelled c =
    let labels = c.args.labels.now in
    let set : IsLabelSet labels = search rules in
    let past : length labels ≤ c.loop-i.i = search rules in (
      record {
        short = omega (arith, set.few);
        each = all_whole IsPair labels c.loop-i.i past c.loop-i.invariant.1;
      },
      set,
    )
