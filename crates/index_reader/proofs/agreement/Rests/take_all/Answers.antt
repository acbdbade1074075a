use Rattle.std.proofs.Common.{arith}
use Rattle.std.proofs.lemmas.Result.{err_from_is_err_and}
use Rattle.std.specs.Prelude.{slice_range}
use Rattle.std.proofs.lemmas.List.{length-map}
use Rattle.index_reader.specs.declared.series.Series.{Series}
use Rattle.index_reader.specs.CheckedFile.{carriers_seen}
use Rattle.index_reader.specs.Reading.Flat.{label_sets_in, references_in_order}
use Rattle.index_reader.specs.Reading.Walk.{take_series}
use Rattle.index_reader.proofs.Placing.{tied_at, length-tied}
use Rattle.index_reader.proofs.Taken.{turn_on, turn_fails, turn_done}
use Rattle.index_reader.proofs.agreement.Rests.take_all.Goals as goal

pub returns-in_err-take_series : goal.returns-in_err-take_series
returns-in_err-take_series c =
    let p = err_from_is_err_and c.from_residual.result c.from_residual.ensures.1 in
    rw (p.1, p.2) (turn_fails take_series c.in_err-take_series.field-0.0 c.loop-at.self
    (carriers_seen c.args.bodies.now) c.loop-at.at _ _ (tied_at _ _ _ _ _
    c.reference_of-reference.ensures c.label_set_at-carried.ensures)
    c.in_err-take_series.ensures c.loop-at.invariant)

pub loop-at-preserved : goal.loop-at-preserved
loop-at-preserved c =
    turn_on take_series c.loop-at.self _ (carriers_seen c.args.bodies.now) c.loop-at.at _ _
    (tied_at _ _ _ _ _ c.reference_of-reference.ensures c.label_set_at-carried.ensures)
    c.in_ok-take_series.ensures c.loop-at.invariant

pub returns : goal.returns
returns c =
    let b = c.args.bodies.now in
    turn_done take_series c.loop-at.self (carriers_seen b) c.loop-at.at _ (omega (
      arith,
      length-tied (references_in_order b.series.items)
          (label_sets_in b.labels.items b.series.items),
      length-map b.series.items (λ (s : Series).
          slice_range b.labels.items s.labels_start s.labels_end),
    )) c.loop-at.invariant
