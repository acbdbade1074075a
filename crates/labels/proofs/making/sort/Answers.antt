use Rattle.std.proofs.lemmas.List.Sorted.{IsPermutation-map}
use Rattle.std.specs.Ordering.{is_lt}
use Rattle.labels.specs.Labels.{pair_cmp}
use Rattle.labels.proofs.NamedPairs.{IsSortedBy-map}
use Rattle.labels.proofs.making.sort.Goals as goal

pub returns-clause-same : goal.returns-clause-same
returns-clause-same c = IsPermutation-map _ _ _ c.sort_unstable.ensures.permutation

pub returns-clause-sorted : goal.returns-clause-sorted
returns-clause-sorted c = IsSortedBy-map _ (λ a b. is_lt (pair_cmp a b)) _ c.sort_unstable.ensures.sorted
