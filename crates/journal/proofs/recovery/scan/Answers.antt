use Rattle.std.proofs.Common.{refl, arith}
use Rattle.std.proofs.lemmas.Result.{err_from_is_err_and}
use Rattle.journal.proofs.Scans.{scanned, rest_shorter, header_refused}
use Rattle.journal.proofs.recovery.scan.Goals as goal

pub returns-in_err-bytes : goal.returns-in_err-bytes
returns-in_err-bytes c =
    let p = err_from_is_err_and c.from_residual.result c.from_residual.ensures.1 in
    rw (p.1, p.2) (header_refused c.args.file.now c.in_err-bytes.field-0.0 c.in_err-bytes.ensures)

pub overflow_sub-file : goal.overflow_sub-file
overflow_sub-file c =
    rest_shorter c.args.file.now c.in_ok-bytes.bytes.now c.in_ok-contents.rest.now _
    (λ i. omega (arith, c.type_inv.file i)) c.in_ok-bytes.ensures c.in_ok-contents.ensures.split

pub returns : goal.returns
returns c =
    scanned c.args.file.now c.in_ok-bytes.bytes.now c.in_ok-contents.rest.now c.in_ok-contents.contents _
    c.in_ok-contents.stop c.ended.result (λ i. omega (arith, c.type_inv.file i)) c.in_ok-bytes.ensures
    c.in_ok-contents.ensures.split c.in_ok-contents.ensures.contents c.in_ok-contents.ensures.stop refl
    c.ended.ensures
