-- A matcher by its number.
use Rattle.std.proofs.Common.{◌≡◌, ℕ, zero, suc, ◌<◌, List, [], ◌∷◌, length, get_or, ap, arith}
use Rattle.labels.specs.Labels.{Labels}
use Rattle.matchers.specs.Satisfies.{satisfies}
use Rattle.matchers.specs.Views.{MatcherView}
use Rattle.cover.specs.Asking.{satisfies_at}

pub satisfied_by : (ms : List MatcherView) (j : ℕ) (m : MatcherView) (labels : Labels)
    → j < length ms → m ≡ get_or ms j m → satisfies m labels ≡ satisfies_at ms j labels
satisfied_by [] j m labels l read = absurd (omega (arith, l))
satisfied_by (x ∷ xs) zero m labels l read = ap (λ (y : MatcherView). satisfies y labels) read
satisfied_by (x ∷ xs) (suc j) m labels l read =
    satisfied_by xs j m labels (omega (arith, l)) read
