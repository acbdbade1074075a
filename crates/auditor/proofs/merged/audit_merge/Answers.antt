use Rattle.std.proofs.Common.{T, List, ◌++◌, refl, sym, ◌∙◌, ap, subst}
use Rattle.std.specs.FinMap.Entries.{is_sorted}
use Rattle.labels.specs.Labels.{labels_cmp}
use Rattle.labels.specs.Rows.{points_of}
use Rattle.labels.proofs.Times.{T_of, true_not_false}
use Rattle.auditor.proofs.Merging.{Sample, all_full, full_all}
use Rattle.auditor.proofs.merged.audit_merge.Goals as goal
use Rattle.auditor.proofs.merged.audit_merge.Goals.{then-not-are_in_order-via-then-not-are_in_order, then-not-are_in_order-via-else-not-are_in_order+then-not-are_full}

pub returns-then-not-are_in_order-clause-unmerged : goal.returns-then-not-are_in_order-clause-unmerged
returns-then-not-are_in_order-clause-unmerged c =
    elim c.then-not-are_in_order.branch [
      | then-not-are_in_order-via-then-not-are_in_order w ↦ (
        refl,
        λ are. subst T (sym c.are_in_order.ensures ∙ w.if-not-are_in_order.true) are.ascending,
      )
      | then-not-are_in_order-via-else-not-are_in_order+then-not-are_full w ↦ (
        refl,
        λ are. true_not_false (sym (full_all c.args.rows.now are.full)
            ∙ sym w.are_full.ensures
            ∙ w.if-not-are_full.true),
      )
    ]

pub returns-clause-merged : goal.returns-clause-merged
returns-clause-merged c = record {
  points =
      sym (ap (λ (xs : List Sample). xs ++ points_of c.args.rows.now) c.new-told.ensures.items)
      ∙ sym c.in_ok-list_rows.ensures ∙ sym c.as_slice.ensures.value
      ∙ c.same_listed.ensures.0 c.if-not-same_listed.false
      ∙ c.as_slice-2.ensures.value ∙ c.in_ok-last.ensures;
  ascending =
      T_of (is_sorted labels_cmp c.args.rows.now) (sym c.are_in_order.ensures
      ∙ c.if-not-are_in_order.false);
  full = all_full c.args.rows.now (sym c.are_full.ensures ∙ c.if-not-are_full.false);
}

pub returns-then-are_alone-clause-merged : goal.returns-then-are_alone-clause-merged
returns-then-are_alone-clause-merged c = record {
  points = c.are_alone.ensures c.if-are_alone.true;
  ascending =
      T_of (is_sorted labels_cmp c.args.rows.now) (sym c.are_in_order.ensures
      ∙ c.if-not-are_in_order.false);
  full = all_full c.args.rows.now (sym c.are_full.ensures ∙ c.if-not-are_full.false);
}
