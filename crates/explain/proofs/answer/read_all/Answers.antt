use Rattle.std.proofs.lemmas.Result.{err_from_is_err_and}
use Rattle.explain.specs.Showing.{by_aim, by_query, by_series, by_values, by_reply, by_folders}
use Rattle.audit_command.proofs.Reading.{unread}
use Rattle.explain.proofs.Reading.{no_reply}
use Rattle.explain.proofs.answer.read_all.Goals as goal

pub returns-in_err-check_aim-clause-err : goal.returns-in_err-check_aim-clause-err
returns-in_err-check_aim-clause-err g c =
    let p = err_from_is_err_and c.from_residual.result c.from_residual.ensures.1 in
    rw (p.1, p.2) (by_aim c.in_err-check_aim.ensures.err)

pub returns-in_err-query-clause-err : goal.returns-in_err-query-clause-err
returns-in_err-query-clause-err g c =
    let p = err_from_is_err_and c.from_residual-in_err-query.result c.from_residual-in_err-query.ensures.1 in
    rw (p.1, p.2) (by_query c.in_ok-check_aim.ensures.ok c.in_err-query.ensures.err)

pub returns-in_err-about-clause-err : goal.returns-in_err-about-clause-err
returns-in_err-about-clause-err g c =
    let p = err_from_is_err_and c.from_residual-in_err-about.result c.from_residual-in_err-about.ensures.1 in
    rw (p.1, p.2)
    (by_series c.in_ok-check_aim.ensures.ok (record { query = c.in_ok-query.query; is_asked = c.in_ok-query.ensures.ok })
    c.in_err-about.ensures.err)

pub returns-in_err-values-clause-err : goal.returns-in_err-values-clause-err
returns-in_err-values-clause-err g c =
    let p = err_from_is_err_and c.from_residual-in_err-values.result c.from_residual-in_err-values.ensures.1 in
    rw (p.1, p.2)
    (by_values (record {
      one_aim = c.in_ok-check_aim.ensures.ok;
      query = record { query = c.in_ok-query.query; is_asked = c.in_ok-query.ensures.ok };
      about = c.in_ok-about.about;
      is_about = c.in_ok-about.ensures.ok;
    }) c.in_err-values.ensures.err)

pub returns-in_err-text-clause-err : goal.returns-in_err-text-clause-err
returns-in_err-text-clause-err g c =
    let p = err_from_is_err_and c.from_residual-in_err-text.result c.from_residual-in_err-text.ensures.1 in
    rw (p.1, p.2)
    (by_reply (record {
      named = record {
        one_aim = c.in_ok-check_aim.ensures.ok;
        query = record { query = c.in_ok-query.query; is_asked = c.in_ok-query.ensures.ok };
        about = c.in_ok-about.about;
        is_about = c.in_ok-about.ensures.ok;
      };
      values = c.in_ok-values.values;
      is_meaning = c.in_ok-values.ensures.ok;
    }) (unread _ _ c.in_err-text.ensures.err))

pub returns-in_err-told-clause-err : goal.returns-in_err-told-clause-err
returns-in_err-told-clause-err g c =
    let p = err_from_is_err_and c.from_residual-in_err-told.result c.from_residual-in_err-told.ensures.1 in
    rw (p.1, p.2)
    (by_reply (record {
      named = record {
        one_aim = c.in_ok-check_aim.ensures.ok;
        query = record { query = c.in_ok-query.query; is_asked = c.in_ok-query.ensures.ok };
        about = c.in_ok-about.about;
        is_about = c.in_ok-about.ensures.ok;
      };
      values = c.in_ok-values.values;
      is_meaning = c.in_ok-values.ensures.ok;
    }) (no_reply _ _ c.in_ok-text.ensures.ok _ (rw c.as_slice.ensures.value at c.in_err-told.ensures.err)))

pub returns-in_err-judged-clause-err : goal.returns-in_err-judged-clause-err
returns-in_err-judged-clause-err g c =
    let p = err_from_is_err_and c.from_residual-in_err-judged.result c.from_residual-in_err-judged.ensures.1 in
    rw (p.1, p.2)
    (by_folders (record {
      named = record {
        one_aim = c.in_ok-check_aim.ensures.ok;
        query = record { query = c.in_ok-query.query; is_asked = c.in_ok-query.ensures.ok };
        about = c.in_ok-about.about;
        is_about = c.in_ok-about.ensures.ok;
      };
      values = c.in_ok-values.values;
      is_meaning = c.in_ok-values.ensures.ok;
    }) (record {
      query = c.in_ok-query.query;
      is_query = c.in_ok-query.ensures.ok;
      text = c.in_ok-text.text.items;
      all = c.in_ok-text.ensures.ok;
      told = c.in_ok-told.told;
      is_told = rw c.as_slice.ensures.value at c.in_ok-told.ensures.ok;
      is_fault = rw c.as_slice-2.ensures.value at c.in_err-judged.ensures.err;
    }))

pub returns-clause-ok : goal.returns-clause-ok
returns-clause-ok g c = record {
  is_query = c.in_ok-query.ensures.ok;
  is_about = c.in_ok-about.ensures.ok;
  is_meaning = c.in_ok-values.ensures.ok;
  all = c.in_ok-text.ensures.ok;
  is_told = rw c.as_slice.ensures.value at c.in_ok-told.ensures.ok;
  one_aim = c.in_ok-check_aim.ensures.ok;
  is_judged = rw c.as_slice-2.ensures.value at c.in_ok-judged.ensures.ok;
}
