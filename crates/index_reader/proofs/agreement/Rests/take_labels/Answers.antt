use Rattle.std.proofs.Common.{arith}
use Rattle.std.proofs.lemmas.Result.{err_from_is_err_and}
use Rattle.index_reader.specs.Reading.Walk.{take_label}
use Rattle.index_reader.proofs.Taken.{turn_on, turn_fails, turn_done}
use Rattle.index_reader.proofs.agreement.Rests.take_labels.Goals as goal

pub returns-in_err-take_label : goal.returns-in_err-take_label
returns-in_err-take_label c =
    let p = err_from_is_err_and c.from_residual.result c.from_residual.ensures.1 in
    rw (p.1, p.2) (turn_fails (take_label c.args.reference) c.in_err-take_label.field-0.0
    c.loop-at.self c.args.labels.now c.loop-at.at _ _ c.key_in-label.ensures
    c.in_err-take_label.ensures c.loop-at.invariant)

pub loop-at-preserved : goal.loop-at-preserved
loop-at-preserved c =
    turn_on (take_label c.args.reference) c.loop-at.self _ c.args.labels.now c.loop-at.at _ _
    c.key_in-label.ensures c.in_ok-take_label.ensures c.loop-at.invariant

pub returns : goal.returns
returns c =
    turn_done (take_label c.args.reference) c.loop-at.self c.args.labels.now c.loop-at.at _
    (omega arith) c.loop-at.invariant
