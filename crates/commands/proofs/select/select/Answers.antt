use Rattle.std.proofs.lemmas.Result.{err_from_is_err_and, on_ok_weaker, IfErr-weaker}
use Rattle.commands.specs.Selecting.{by_selection, by_directories, by_writing}
use Rattle.commands.proofs.LineEnds.{unused}
use Rattle.commands.proofs.select.select.Goals as goal

pub returns-in_err-query-clause-err : goal.returns-in_err-query-clause-err
returns-in_err-query-clause-err g c =
    let p = err_from_is_err_and c.from_residual.result c.from_residual.ensures.1 in
    rw (p.1, p.2) (by_selection c.in_err-query.ensures.err)

pub returns-in_err-snapshot-clause-err : goal.returns-in_err-snapshot-clause-err
returns-in_err-snapshot-clause-err g c =
    let p =
    err_from_is_err_and c.from_residual-in_err-snapshot.result
    c.from_residual-in_err-snapshot.ensures.1 in
    rw (p.1, p.2) (by_directories (record {
      query = c.in_ok-query.query;
      is_asked = c.in_ok-query.ensures.ok;
    }) c.in_err-snapshot.ensures.err)

pub returns-in_err-snapshot-clause-kept : goal.returns-in_err-snapshot-clause-kept
returns-in_err-snapshot-clause-kept g c =
    let p =
    err_from_is_err_and c.from_residual-in_err-snapshot.result
    c.from_residual-in_err-snapshot.ensures.1 in
    rw (p.1, p.2) (unused _ (g.W.Write.contents c.args.out.now))

pub returns-clause-ok : goal.returns-clause-ok
returns-clause-ok g c = on_ok_weaker c.write_answer.result (λ written. record {
  query = c.in_ok-query.query;
  is_asked = c.in_ok-query.ensures.ok;
  snapshot = c.in_ok-snapshot.snapshot;
  opened = c.in_ok-snapshot.ensures.ok;
  answered = written;
}) c.write_answer.ensures.ok

pub returns-clause-err : goal.returns-clause-err
returns-clause-err g c = IfErr-weaker c.write_answer.result _ _
    (λ fault failed. by_writing
    (record { query = c.in_ok-query.query; is_asked = c.in_ok-query.ensures.ok })
    (record {
      snapshot = c.in_ok-snapshot.snapshot;
      opened = c.in_ok-snapshot.ensures.ok;
    }) failed) c.write_answer.ensures.faults
