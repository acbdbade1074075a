-- Which head and which events the contents of a journal are.
use Rattle.std.specs.Prelude.{◌≡◌, ◌≢◌, ◌⊎◌, ◌+◌, ℕ, ℤ, pos, negsuc, Bool, true, false, ◌&&◌}
use Rattle.std.specs.Prelude.{List, []}
use Rattle.std.specs.Prelude.{◌∷◌, ◌++◌, length, map, nat_le}
use Rattle.std.specs.List.{AllZip, list_all}
use Rattle.labels.specs.Contents.{is_time}
use Rattle.labels.specs.Rows.{Row}
use Rattle.matchers.specs.Queries.{is_query_range}
use Rattle.journal.specs.Records.{Recovers}
use Rattle.kept_walk.specs.declared.journal_state.Values.{Values}
use Rattle.kept_walk.specs.declared.journal_state.Values.TheVariants.{Whole, Doubles}
use Rattle.kept_walk.specs.Fields as form
use Rattle.kept_walk.specs.Forms.{signed}
use Rattle.kept_walk.specs.Kept.{Event, batch, deletion, cut, Series, Store}
use Rattle.kept_walk.specs.Numbered.{AreListed, IsRun, Names}

-- EVENTS

-- how many samples runs have
abbrev pub sample_count : List Row → ℕ
sample_count [] = 0
sample_count (run ∷ runs) = length run.1 + sample_count runs

abbrev pub are_timed : Row → Bool
are_timed run = list_all (λ s. is_time s.0) run.1

-- at most 4,096 samples, at times; at most 16 matchers, and a range from a time to one that is not
-- before it; a time
abbrev pub is_bounded : Event → Bool
is_bounded (batch runs) = nat_le (sample_count runs) 4096 && list_all are_timed runs
is_bounded (deletion matchers from to) =
    nat_le (length matchers) 16 && is_query_range from to
is_bounded (cut time) = is_time time

-- a kind, 1 to 3, and the fields: no series is named by number
abbrev pub event_text : Event → List ℕ
event_text (batch runs) = 1 ∷ form.runs.text runs
event_text (deletion matchers from to) = 2 ∷ form.deletion_parts.text (matchers, (from, to))
event_text (cut time) = 3 ∷ signed.text time

abbrev pub HasText : Event → Type 0
HasText (batch runs) = form.runs.fits runs
HasText (deletion matchers from to) = form.deletion_parts.fits (matchers, (from, to))
HasText (cut time) = signed.fits time

-- the content is that of an event
pub record SpellsEvent (content : List ℕ) (event : Event) : Type 0 where
  pub text : content ≡ event_text event
  pub fits : HasText event
  pub bounded : is_bounded event ≡ true

-- the content is that of a batch whose series are named by number: the kind 4, and its fields;
-- these names were given before it, and those after it
pub record SpellsNumbered (names : Names) (content : List ℕ) (runs : List Row) (after : Names)
    : Type 0 where
  pub fields : List ℕ
  pub last : ℤ
  pub text : content ≡ 4 ∷ fields
  pub listed : AreListed IsRun (names, pos 0) runs fields (after, last)
  pub differ : form.each_next form.differs runs ≡ true
  pub bounded : is_bounded (batch runs) ≡ true

-- the content is that of the event, after these names
abbrev pub SpellsBy : Names → List ℕ → Event → Names → Type 0
SpellsBy names content event after =
    (SpellsEvent content event × (after ≡ names))
    ⊎ ((runs : List Row) × (event ≡ batch runs) × SpellsNumbered names content runs after)

-- the contents are those of the events, in their order, each after the names that those before it
-- gave
abbrev pub AreFrom : Names → List (List ℕ) → List Event → Names → Type 0
AreFrom names [] [] after = names ≡ after
AreFrom names [] (event ∷ events) after = ⊥
AreFrom names (content ∷ contents) [] after = ⊥
AreFrom names (content ∷ contents) (event ∷ events) after =
    (mid : Names) × SpellsBy names content event mid × AreFrom mid contents events after

-- the contents behind a head are those of the events: they begin with no names
abbrev pub AreEvents : List (List ℕ) → List Event → Type 0
AreEvents contents events = (after : Names) × AreFrom [] contents events after

-- HEADS

-- the content is that of a series: the kind 17, and its fields
pub record SpellsSeries (content : List ℕ) (series : Series) : Type 0 where
  pub text : content ≡ 17 ∷ form.series.text series
  pub fits : form.series.fits series

-- the kind of a head says what the values mean
abbrev pub head_kind : Values → ℕ
head_kind Whole = 16
head_kind Doubles = 18

-- the content says what the values mean, the floor, the blocks, and how many series follow
pub record SpellsOpening (content : List ℕ) (values : Values) (said : ℤ × (List (ℕ × ℕ) × ℕ))
    : Type 0 where
  pub text : content ≡ head_kind values ∷ form.opening.text said
  pub fits : form.opening.fits said

-- the contents begin with the head of the store, and these stand behind it
pub record BeginsWithHead (contents : List (List ℕ)) (store : Store) (behind : List (List ℕ))
    : Type 0 where
  -- of each block the folder, and a number that is not looked at
  pub places : List (ℕ × ℕ)
  pub folders : store.folders ≡ map (λ p. p.0) places
  pub first : List ℕ
  pub others : List (List ℕ)
  pub whole : contents ≡ first ∷ others ++ behind
  pub opening : SpellsOpening first store.values (store.floor, (places, length store.head))
  pub series : AllZip SpellsSeries others store.head

-- a store that had nothing before these events: its floor is the smallest time
abbrev pub of_events : List Event → Store
of_events events = record {
  values = Whole;
  floor = negsuc 4611686018427387903;
  folders = [];
  head = [];
  events = events;
}

-- whether the first content begins as that of an event
abbrev pub begins_event : List (List ℕ) → Bool
begins_event ((kind ∷ content) ∷ contents) = nat_le 1 kind && nat_le kind 4
begins_event contents = false

-- the contents are a head and the events behind it, or events alone, of a store that had nothing
abbrev pub AreContents : List (List ℕ) → Store → Type 0
AreContents contents store =
    ((behind : List (List ℕ)) × BeginsWithHead contents store behind
    × AreEvents behind store.events)
    ⊎ ((store ≡ of_events store.events) × (store.events ≢ []) × AreEvents contents store.events)

-- the file is the journal of this store: its whole records, before a torn end, are the contents of
-- its head and its events
pub record IsKept (file : List ℕ) (store : Store) : Type 0 where
  pub contents : List (List ℕ)
  pub recovers : Recovers file contents
  pub are : AreContents contents store
