use Rattle.std.proofs.Common.{◌≡◌, ℤ, T, true, List, [], ◌∷◌, ◌++◌, sym, ap, subst, ◌∙◌}
use Rattle.std.specs.Ordering.{int_cmp}
use Rattle.std.specs.FinMap.Entries.{is_sorted}
use Rattle.labels.specs.Labels.{Labels, labels_cmp, same_labels}
use Rattle.labels.specs.Rows.{Row}
use Rattle.labels.proofs.OrderLaws.{labels_exact}
use Rattle.exposition.proofs.Puts.{is_equal, on_true}
use Rattle.exposition.proofs.runs.goes_on.Goals as goal

pub returns-then-eq : goal.returns-then-eq
returns-then-eq c =
    let row : Row = c.args.row.now in
    let labels : Labels = c.args.labels.now in
    let same : same_labels row.0 labels ≡ true =
    ap (λ (x : Labels). same_labels x labels) (sym c.labels.ensures) ∙ sym c.eq.ensures
    ∙ c.if-eq.true in
    on_true c.comes_after.result
    (λ h. (
      labels_exact row.0 labels (is_equal (labels_cmp row.0 labels) same),
      subst (λ (ss : List (ℤ × ℤ)). T (is_sorted int_cmp (ss ++ c.args.sample ∷ [])))
          c.samples.ensures h,
    ))
    c.comes_after.ensures
