-- The events and the query of the demo.
use Rattle.std.specs.Prelude.{ℕ, ℤ, pos, List, [], ◌∷◌, ◌++◌, codes}
use Rattle.labels.specs.Labels.{Labels}
use Rattle.matchers.specs.Views.{MatcherView, QueryView}
use Rattle.matchers.specs.declared.matcher.Op.TheVariants.{Equal}
use Rattle.head.specs.Worlds.{Batch, Event, batch}

-- the matcher of a name whose value is a text
abbrev pub equal_to : List ℕ → List ℕ → MatcherView
equal_to name text = record { name = name; op = Equal; text = text }

-- up{job="a"}, from a time to a time
abbrev pub demo_query : ℤ → ℤ → QueryView
demo_query from to = record {
  matchers = equal_to (codes "__name__") (codes "up") ∷ equal_to (codes "job") (codes "a") ∷ [];
  from = from;
  to = to;
}

-- a series of a job
abbrev pub series_of : List ℕ → List ℕ → Labels
series_of name job = (codes "__name__", name) ∷ (codes "job", job) ∷ []

-- a series of a job in a zone
abbrev pub zoned_series : List ℕ → List ℕ → List ℕ → Labels
zoned_series name job zone = series_of name job ++ (codes "zone", zone) ∷ []

-- a series with its number as its value at the times 10 and 20
abbrev pub sampled : Labels → ℤ → Batch
sampled labels number = (labels, (pos 10, number)) ∷ (labels, (pos 20, number)) ∷ []

-- the series 1, 2 and 3
abbrev pub first_event : Event
first_event = batch
    (sampled (series_of (codes "up") (codes "a")) (pos 1)
    ++ sampled (series_of (codes "up") (codes "b")) (pos 2)
    ++ sampled (zoned_series (codes "up") (codes "b") (codes "x")) (pos 3))

-- the series 4, 5 and 6
abbrev pub second_event : Event
second_event = batch
    (sampled (series_of (codes "down") (codes "a")) (pos 4)
    ++ sampled (series_of (codes "down") (codes "b")) (pos 5)
    ++ sampled (zoned_series (codes "up") (codes "a") (codes "x")) (pos 6))

-- the events of the demo, in their order
abbrev pub demo_events : List Event
demo_events = first_event ∷ second_event ∷ []
