use Rattle.std.proofs.lemmas.Result.{err_from_is_err_and}
use Rattle.kept_walk.proofs.Known.{known_fails, known_read}
use Rattle.kept_walk.proofs.numbers.numbered_labels.Goals as goal

pub returns-in_err-whole_labels : goal.returns-in_err-whole_labels
returns-in_err-whole_labels c =
    let p = err_from_is_err_and c.from_residual.result c.from_residual.ensures.1 in
    rw (p.1, p.2) (known_fails c.args.number c.args.names.now c.args.bytes.now c.in-Some.text.now
    c.in-Some.ensures.0 c.in-Some.ensures.1 c.in_err-whole_labels.field-0.0
    c.in_err-whole_labels.ensures)

pub returns-in-Some : goal.returns-in-Some
returns-in-Some c =
    known_read c.args.number c.args.names.now c.args.bytes.now c.in-Some.text.now
    c.in-Some.ensures.0 c.in-Some.ensures.1 c.in_ok-whole_labels.field-0
    c.in_ok-whole_labels.ensures
