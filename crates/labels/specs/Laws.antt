-- The order of label sets is total.
use Rattle.std.specs.Cmp.{IsTotalOrder}
use Rattle.std.proofs.lemmas.Cmp.{nat_list_cmp_total, on_total, then_total, lists_total}
use Rattle.labels.specs.Labels.{labels_cmp}

pub labels_total : IsTotalOrder labels_cmp
unfolding labels_cmp
labels_total =
    lists_total
    (then_total (on_total (λ p. p.0) nat_list_cmp_total) (on_total (λ p. p.1) nat_list_cmp_total))
