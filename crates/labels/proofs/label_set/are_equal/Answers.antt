use Rattle.std.proofs.Common.{◌∙◌, ap, sym}
use Rattle.std.specs.Ordering.{eq_by_cmp}
use Rattle.std.specs.Cmp.{eq_by_cmp_equiv}
use Rattle.labels.specs.Labels.{labels_cmp}
use Rattle.labels.specs.Laws.{labels_total}
use Rattle.labels.proofs.label_set.are_equal.Goals as goal

pub returns-then-is_cut_alike : goal.returns-then-is_cut_alike
returns-then-is_cut_alike c =
    c.if-is_cut_alike.true
    ∙ sym (ap (λ x. eq_by_cmp labels_cmp c.args.a.now x) (sym (c.is_cut_alike.ensures c.if-is_cut_alike.true))
    ∙ (eq_by_cmp_equiv labels_total).refl c.args.a.now)
