-- The order of label sets and of points.
use Rattle.std.specs.Prelude.{◌≡◌, true}
use Rattle.std.specs.Ordering.{int_cmp, is_eq}
use Rattle.std.specs.Cmp.{IsTotalOrder}
use Rattle.std.specs.FinMap.{IsAntisymmetric, slice_cmp-IsAntisymmetric, int_cmp-IsAntisymmetric}
use Rattle.std.proofs.lemmas.Map.Lookups.{exact_pairs}
use Rattle.std.proofs.lemmas.Cmp.{then_total, on_total, int_cmp_total}
use Rattle.std.specs.Cmp.{tied_itself, eq_by_cmp_equiv}
use Rattle.std.proofs.Common.{ap}
use Rattle.labels.specs.Labels.{Labels, labels_cmp, point_cmp, same_labels}
use Rattle.labels.specs.Laws.{labels_total}
use Rattle.labels.proofs.Texts.{pair_exact}

pub point_total : IsTotalOrder point_cmp
point_total = then_total (on_total (λ p. p.0) labels_total) (on_total (λ p. p.1) int_cmp_total)

pub labels_exact : IsAntisymmetric labels_cmp
unfolding labels_cmp
labels_exact = slice_cmp-IsAntisymmetric pair_exact

pub point_exact : IsAntisymmetric point_cmp
point_exact = exact_pairs labels_cmp int_cmp labels_exact int_cmp-IsAntisymmetric

pub same_self : (l : Labels) → same_labels l l ≡ true
same_self l = ap is_eq (tied_itself labels_total l)

pub same_turn : (a b : Labels) → same_labels a b ≡ same_labels b a
same_turn a b = (eq_by_cmp_equiv labels_total).symm a b
