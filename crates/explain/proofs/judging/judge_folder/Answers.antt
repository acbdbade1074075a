use Rattle.std.proofs.Common.{inl, inr}
use Rattle.std.proofs.lemmas.Result.{err_from_is_err_and}
use Rattle.explain.proofs.judging.judge_folder.Goals as goal

pub returns-in_err-judge_found-clause-err : goal.returns-in_err-judge_found-clause-err
returns-in_err-judge_found-clause-err g c =
    let p = err_from_is_err_and c.from_residual-in_err-judge_found.result c.from_residual-in_err-judge_found.ensures.1 in
    rw (p.1, p.2)
    (inl (inr (
      c.in_ok-reply.reply,
      c.in_ok-reply.ensures.ok,
      c.in_ok-store.store,
      c.in_ok-store.ensures.ok,
      c.in_err-judge_found.ensures.err,
    )))

pub returns-clause-ok : goal.returns-clause-ok
returns-clause-ok g c = record {
  reply = c.in_ok-reply.reply;
  says = c.in_ok-reply.ensures.ok;
  store = c.in_ok-store.store;
  is_found = c.in_ok-store.ensures.ok;
  of_store = c.in_ok-judge_found.ensures.ok;
}
