-- The order of where lists stand is total.
use Rattle.std.specs.Prelude.{ℕ}
use Rattle.std.specs.Cmp.{IsTotalOrder}
use Rattle.std.proofs.lemmas.Cmp.{nat_cmp_total, on_total, back_total}
use Rattle.postings.specs.Standing.{earlier}

pub earlier_total : {X : Type 0} (first : X → ℕ) → IsTotalOrder (earlier first)
earlier_total first = back_total (on_total first nat_cmp_total)
