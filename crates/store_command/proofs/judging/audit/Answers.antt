use Rattle.std.proofs.lemmas.Result.{err_from_is_err_and, IfErr-weaker, IfOk-weaker}
use Rattle.store_command.specs.Judging.{by_mark, by_query, by_reply, by_folder, by_found}
use Rattle.store_command.proofs.judging.audit.Goals as goal

pub returns-in_err-mark-clause-err : goal.returns-in_err-mark-clause-err
returns-in_err-mark-clause-err g c =
    let p = err_from_is_err_and c.from_residual.result c.from_residual.ensures.1 in
    rw (p.1, p.2) (by_mark c.in_err-mark.ensures.err)

pub returns-in_err-query-clause-err : goal.returns-in_err-query-clause-err
returns-in_err-query-clause-err g c =
    let p = err_from_is_err_and c.from_residual-in_err-query.result c.from_residual-in_err-query.ensures.1 in
    rw (p.1, p.2) (by_query (c.in_ok-mark.mark, c.in_ok-mark.ensures.ok) c.in_err-query.ensures.err)

pub returns-in_err-reply-clause-err : goal.returns-in_err-reply-clause-err
returns-in_err-reply-clause-err g c =
    let p = err_from_is_err_and c.from_residual-in_err-reply.result c.from_residual-in_err-reply.ensures.1 in
    rw (p.1, p.2)
    (by_reply (c.in_ok-mark.mark, c.in_ok-mark.ensures.ok)
    (record { query = c.in_ok-query.query; is_asked = c.in_ok-query.ensures.ok })
    c.in_err-reply.ensures.err)

pub returns-in_err-found-clause-err : goal.returns-in_err-found-clause-err
returns-in_err-found-clause-err g c =
    let p = err_from_is_err_and c.from_residual-in_err-found.result c.from_residual-in_err-found.ensures.1 in
    rw (p.1, p.2)
    (by_folder (c.in_ok-mark.mark, c.in_ok-mark.ensures.ok)
    (record { query = c.in_ok-query.query; is_asked = c.in_ok-query.ensures.ok })
    (record { reply = c.in_ok-reply.reply; holds = c.in_ok-reply.ensures.ok })
    c.in_err-found.ensures.err)

pub returns-clause-ok : goal.returns-clause-ok
returns-clause-ok g c =
    IfOk-weaker c.report_over.result _ _ (λ report is. record {
      mark = c.in_ok-mark.mark;
      query = c.in_ok-query.query;
      reply = c.in_ok-reply.reply;
      has_read = record {
        is_mark = c.in_ok-mark.ensures.ok;
        is_asked = c.in_ok-query.ensures.ok;
        is_reply = c.in_ok-reply.ensures.ok;
      };
      found = c.in_ok-found.found;
      is_found = c.in_ok-found.ensures.ok;
      is_report = is;
    }) c.report_over.ensures.ok

pub returns-clause-err : goal.returns-clause-err
returns-clause-err g c =
    IfErr-weaker c.report_over.result _ _ (λ fault is. by_found (record {
      mark = c.in_ok-mark.mark;
      query = c.in_ok-query.query;
      reply = c.in_ok-reply.reply;
      has_read = record {
        is_mark = c.in_ok-mark.ensures.ok;
        is_asked = c.in_ok-query.ensures.ok;
        is_reply = c.in_ok-reply.ensures.ok;
      };
      found = c.in_ok-found.found;
      is_found = c.in_ok-found.ensures.ok;
      is_fault = is;
    })) c.report_over.ensures.err
