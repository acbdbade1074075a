use Rattle.std.proofs.Common.{refl}
use Rattle.std.proofs.lemmas.Result.{err_from_is_err_and}
use Rattle.answer_pages.proofs.write.write_answer_page.Goals as goal

pub returns-in_err-told-clause-err : goal.returns-in_err-told-clause-err
returns-in_err-told-clause-err c =
    let p = err_from_is_err_and c.from_residual-in_err-told.result c.from_residual-in_err-told.ensures.1 in
    rw (p.1, p.2) (rw (c.as_slice-bytes.ensures.value, c.in_ok-text.ensures) at c.in_err-told.ensures.err)

pub returns-clause-ok : goal.returns-clause-ok
returns-clause-ok c = record {
  page = c.in_ok-page.page;
  of_text = rw (c.as_slice-bytes.ensures.value, c.in_ok-text.ensures) at c.in_ok-page.ensures;
  bytes_are = refl;
}
