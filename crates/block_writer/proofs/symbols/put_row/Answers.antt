use Rattle.std.proofs.Common.{ℕ, List, take, arith}
use Rattle.labels.specs.Pairs.{texts_of}
use Rattle.block_writer.specs.InUse.{pairs_in}
use Rattle.block_writer.specs.Typed.{IsOfTexts}
use Rattle.block_writer.proofs.Found.{none_added, one_more_pair, all_added, known_in}
use Rattle.block_writer.proofs.Taken.{all_and_lent, all_of_them}
use Rattle.block_writer.proofs.symbols.put_row.Goals as goal

pub loop-i-init : goal.loop-i-init
loop-i-init c = record {
  added = none_added (texts_of c.args.found.now.items) c.args.labels.now;
  typed = λ k d lt. absurd (omega (arith, lt));
}

pub loop-i-preserved : goal.loop-i-preserved
loop-i-preserved c =
    let old = texts_of c.args.found.now.items in
    let labels = c.args.labels.now in
    let q : List ℕ × List ℕ = (c.pair.result.0.now, c.pair.result.1.now) in
    record {
      added =
          one_more_pair old labels (texts_of c.loop-i.found.items)
          (texts_of c.put_pair.new.found.items) c.loop-i.i q c.stood_before-known.result c.pair.ensures
          c.in_ok-put_pair.ensures.text
          (known_in c.stood_before-known.result (pairs_in (take c.args.at c.args.rows.now)) old q
          c.requires.held c.stood_before-known.ensures)
          c.loop-i.invariant.added;
      typed =
          all_and_lent IsOfTexts labels c.loop-i.i q c.pair.ensures c.loop-i.invariant.typed
          c.in_ok-put_pair.ensures.typed;
    }

pub returns-clause-added : goal.returns-clause-added
returns-clause-added c =
    all_added _ c.args.labels.now _ c.loop-i.i (omega arith) c.loop-i.invariant.added

pub returns-clause-typed : goal.returns-clause-typed
returns-clause-typed c = record {
  label_set = c.len-i-end.ensures.label_set;
  texts = all_of_them IsOfTexts c.args.labels.now c.loop-i.i (omega arith) c.loop-i.invariant.typed;
}
