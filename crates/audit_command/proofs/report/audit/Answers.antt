use Rattle.std.proofs.lemmas.Result.{err_from_is_err_and}
use Rattle.audit_command.specs.Auditing.{by_directories}
use Rattle.audit_command.proofs.report.audit.Goals as goal

pub returns-in_err-tables-clause-err : goal.returns-in_err-tables-clause-err
returns-in_err-tables-clause-err g c =
    let p = err_from_is_err_and c.from_residual-in_err-tables.result c.from_residual-in_err-tables.ensures.1 in
    rw (p.1, p.2)
    (by_directories (record { query = c.in_ok-query.query; is_asked = c.in_ok-query.ensures.ok })
    (record { reply = c.in_ok-reply.reply; holds = c.in_ok-reply.ensures.ok })
    (rw c.as_slice.ensures.value at c.in_err-tables.ensures.err))

pub returns-clause-ok : goal.returns-clause-ok
returns-clause-ok g c = record {
  query = c.in_ok-query.query;
  is_asked = c.in_ok-query.ensures.ok;
  reply = c.in_ok-reply.reply;
  is_reply = c.in_ok-reply.ensures.ok;
  tables = c.in_ok-tables.tables.items;
  are_tables = rw c.as_slice.ensures.value at c.in_ok-tables.ensures.ok;
  lines = c.in_ok-lines.lines.items;
  are_lines = rw c.as_slice-2.ensures.value at c.in_ok-lines.ensures;
  text_is = rw c.as_slice-4.ensures.value at c.in_ok-text.ensures;
  outcome_is = rw c.as_slice-3.ensures.value at c.outcome_of-outcome.ensures;
}
