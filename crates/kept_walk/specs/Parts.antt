-- What is read, without where it lies in memory.
use Rattle.std.specs.Prelude.{ℕ, Bool, false, List, [], ◌∷◌, ◌==◌, map, Result, Vec}
use Rattle.std.specs.Borrow.{Bor}
use Rattle.std.specs.declared.alloc.Global.{Global}
use Rattle.matchers.specs.Views.{MatcherView}
use Rattle.journal.specs.Contents.{contents_in}
use Rattle.kept_walk.specs.Kept.{Event, batch, deletion, cut, Store}
use Rattle.kept_walk.specs.Reading.{Opening}
use Rattle.kept_walk.specs.declared.parts.HeadParts.{HeadParts}
use Rattle.kept_walk.specs.declared.parts.OpeningParts.{OpeningParts}
use Rattle.kept_walk.specs.Contents.{BeginsWithHead}
use Rattle.kept_walk.specs.Outcome.{Finds}
use Rattle.kept_walk.specs.declared.fault.Fault.{Fault}
use Rattle.kept_walk.specs.declared.parts.MatcherParts.{MatcherParts}
use Rattle.kept_walk.specs.declared.parts.EventParts.{EventParts}
use Rattle.kept_walk.specs.declared.parts.EventParts.TheVariants.{Batch, Deletion, Cut}

abbrev pub Bytes : Type 0
Bytes = Vec ℕ Global

abbrev pub matcher_in : MatcherParts → MatcherView
matcher_in m = record { name = m.name.now; op = m.op; text = m.text.now }

abbrev pub matchers_in : List MatcherParts → List MatcherView
matchers_in ms = map matcher_in ms

abbrev pub event_in : EventParts → Event
event_in (Batch runs) = batch runs.items
event_in (Deletion matchers from to) = deletion (matchers_in matchers.items) from to
event_in (Cut time) = cut time

-- what a first content says
abbrev pub opening_in : OpeningParts → Opening
opening_in o = (o.values, (o.floor, (o.places.items, o.count)))

-- the head of a store, of which nothing is known behind it
abbrev pub head_in : HeadParts → Store
head_in h = record {
  values = h.values;
  floor = h.floor;
  folders = h.folders.items;
  head = h.series.items;
  events = [];
}

-- the head that contents begin with, and those behind it
abbrev pub head_seen : HeadParts × Bor (List Bytes) → Store × List (List ℕ)
head_seen x = (head_in x.0, contents_in x.1.now)

abbrev pub FindsHead : List (List ℕ) → Result (HeadParts × Bor (List Bytes)) Fault → Type 0
FindsHead contents result =
    Finds head_seen (λ (p : Store × List (List ℕ)). BeginsWithHead contents p.0 p.1) result

-- whether a content is that of a batch by number
abbrev pub is_numbered : List ℕ → Bool
is_numbered [] = false
is_numbered (kind ∷ fields) = kind == 4
