use Rattle.std.proofs.Common.{◌≡◌, true, false, sym, ◌∙◌, rules, arith}
use Rattle.std.proofs.lemmas.Grind.{common_steps}
use Rattle.std.proofs.lemmas.Result.{err_from_is_err_and}
use Rattle.asked_series.specs.Series.{are_equal, by_operator}
use Rattle.asked_series.proofs.Naming.{why_no_series}
use Rattle.asked_series.proofs.series.series_of.Goals as goal

pub returns-in_err-labels-clause-err : goal.returns-in_err-labels-clause-err
returns-in_err-labels-clause-err c =
    let p = err_from_is_err_and c.from_residual-in_err-labels.result c.from_residual-in_err-labels.ensures.1 in
    rw (p.1, p.2) (why_no_series _ _ c.in_ok-matchers.ensures.ok _ (rw c.as_slice-2.ensures.value at c.in_err-labels.ensures.err))

pub returns-then-not-are_equal-clause-err : goal.returns-then-not-are_equal-clause-err
returns-then-not-are_equal-clause-err c =
    let same : c.are_equal.result ≡ are_equal c.in_ok-matchers.matchers.items = rw c.as_slice.ensures.value at c.are_equal.ensures in
    let none : c.are_equal.result ≡ false = first_of (search rules, grind (arith, common_steps)) in
    by_operator c.in_ok-matchers.matchers.items c.in_ok-matchers.ensures.ok (sym same ∙ none)

pub returns-clause-ok : goal.returns-clause-ok
returns-clause-ok c =
    let same : c.are_equal.result ≡ are_equal c.in_ok-matchers.matchers.items = rw c.as_slice.ensures.value at c.are_equal.ensures in
    let each : c.are_equal.result ≡ true = first_of (search rules, grind (arith, common_steps)) in
    record {
      matchers = c.in_ok-matchers.matchers.items;
      accepted = c.in_ok-matchers.ensures.ok;
      equal = sym same ∙ each;
      are_labels = rw c.as_slice-2.ensures.value at c.in_ok-labels.ensures.ok;
    }
