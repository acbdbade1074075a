use Rattle.std.specs.Prelude.{◌≡◌, ◌+◌, Ok}
use Rattle.std.proofs.Common.{subst, rules, ◌∙◌, ap, arith, to_z, of_z, w64, length, drop}
use Rattle.head.specs.BatchRows.{batch_of_rows}
use Rattle.head.specs.Outcomes.{IsStepRefusal}
use Rattle.head.specs.Taking.{head_added_each}
use Rattle.head.specs.Slots.{series_in_each}
use Rattle.head.proofs.RowSteps.{rows_next, rows_refused, left_after, all_in_row}
use Rattle.head.proofs.adding.add_rows.Goals as goal

pub add_row-requires : goal.add_row-requires
add_row-requires c =
    let left = left_after c.loop-row.row-index c.args.rows.now c.row-item.result c.loop-row-test.true c.row-item.is in
    record {
      ordered = c.loop-row.invariant.ordered;
      few = omega (arith, left, c.loop-row.invariant.left, c.requires.few);
    }

pub returns-in-Err-clause-step : goal.returns-in-Err-clause-step
returns-in-Err-clause-step c =
    let same_floor : to_z w64 (of_z w64 c.args.floor) ≡ c.args.floor = search rules in
    subst (λ f. IsStepRefusal c.in-Err.refusal (head_added_each f (Ok (series_in_each c.args.draft.now)) 0 (batch_of_rows c.args.rows.now))) same_floor
    (rows_refused (to_z w64 (of_z w64 c.args.floor)) (series_in_each c.args.draft.now) (series_in_each c.loop-row.draft) c.loop-row.at c.loop-row.row-index c.args.rows.now c.row-item.result c.in-Err.refusal
    c.loop-row-test.true c.row-item.is c.loop-row.invariant.same c.in-Err.ensures.step)

pub loop-row-preserved : goal.loop-row-preserved
loop-row-preserved c =
    let rows = c.args.rows.now in
    let row = c.row-item.result in
    let i = c.loop-row.row-index in
    let count : length c.samples.result.now ≡ length row.1 = ap length c.samples.ensures in
    let left = left_after i rows row c.loop-row-test.true c.row-item.is in
    record {
      ordered = c.in-Ok.ensures.ordered;
      same = (λ k. head_added_each (to_z w64 (of_z w64 c.args.floor)) (Ok (series_in_each c.add_row.new.draft)) (c.loop-row.at + count k) (batch_of_rows (drop (i + 1) rows)))
          ∙ rows_next (to_z w64 (of_z w64 c.args.floor)) (series_in_each c.args.draft.now) (series_in_each c.loop-row.draft) (series_in_each c.add_row.new.draft) c.loop-row.at i rows row
          c.loop-row-test.true c.row-item.is c.loop-row.invariant.same c.in-Ok.ensures.step;
      left = omega (arith, count, left, c.loop-row.invariant.left);
      few = omega (arith, count, c.loop-row.invariant.few, c.in-Ok.ensures.few);
      counted = omega (arith, c.loop-row.invariant.counted, c.in-Ok.ensures.counted);
      owners = λ p all own.
          c.in-Ok.ensures.owners p (all_in_row (λ x. p x.0) i rows row c.loop-row-test.true c.row-item.is all)
          (c.loop-row.invariant.owners p all own);
    }
