use Rattle.std.proofs.Common.{ap, subst, arith}
use Rattle.labels.specs.Labels.{Labels}
use Rattle.labels.specs.Rows.{Row}
use Rattle.labels.specs.Pairs.{texts_of}
use Rattle.block_writer.specs.InUse.{HoldsAlso}
use Rattle.block_writer.specs.Typed.{AreOfTexts}
use Rattle.block_writer.proofs.Found.{none_are_those, more_rows, those_of_all}
use Rattle.block_writer.proofs.Taken.{all_and, all_of_them}
use Rattle.block_writer.proofs.symbols.all_pairs.Goals as goal

pub loop-i-init : goal.loop-i-init
loop-i-init c = record {
  held = none_are_those _ (ap texts_of c.new-found.ensures.items);
  typed = λ k d lt. absurd (omega (arith, lt));
}

pub loop-i-preserved : goal.loop-i-preserved
loop-i-preserved c =
    let rows = c.args.rows.now in
    let i = c.loop-i.i in
    let row : Row = c.index-rows-i.result in
    record {
      held =
          more_rows rows i row (texts_of c.loop-i.found.items) (texts_of c.put_row.new.found.items)
          _ (omega arith) c.index-rows-i.is c.loop-i.invariant.held
          (subst (λ (ls : Labels). HoldsAlso (texts_of c.loop-i.found.items) ls
          (texts_of c.put_row.new.found.items)) c.labels.ensures c.in_ok-put_row.ensures.added)
          c.thin_out-many.ensures;
      typed =
          all_and (λ (r : Row). AreOfTexts r.0) rows i row (omega arith) c.index-rows-i.is
          c.loop-i.invariant.typed
          (subst AreOfTexts c.labels.ensures c.in_ok-put_row.ensures.typed);
    }

pub returns-clause-held : goal.returns-clause-held
returns-clause-held c =
    those_of_all c.args.rows.now c.loop-i.i _ (omega arith) c.loop-i.invariant.held

pub returns-clause-typed : goal.returns-clause-typed
returns-clause-typed c =
    all_of_them (λ (r : Row). AreOfTexts r.0) c.args.rows.now c.loop-i.i (omega arith)
    c.loop-i.invariant.typed
