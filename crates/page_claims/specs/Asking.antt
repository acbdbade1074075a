-- What matchers and rows say of a label set.
use Rattle.std.specs.Prelude.{ℕ, ◌+◌, List, [], ◌∷◌, if◌then◌else◌}
use Rattle.labels.specs.Labels.{Labels}
use Rattle.matchers.specs.Views.{MatcherView}
use Rattle.matchers.specs.Satisfies.{satisfies}

-- the places, counted from this one, of the matchers that do not accept what a label set has
abbrev pub rejecting_from : ℕ → List MatcherView → Labels → List ℕ
rejecting_from place [] labels = []
rejecting_from place (m ∷ ms) labels =
    if satisfies m labels then rejecting_from (place + 1) ms labels
    else place ∷ rejecting_from (place + 1) ms labels
