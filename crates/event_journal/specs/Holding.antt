-- Which events a file stands for, and which a journal holds.
use Rattle.std.specs.Prelude.{◌≡◌, ℕ, Bool, false, ◌&&◌, nat_le, List, [], ◌∷◌, ◌++◌, length}
use Rattle.std.specs.Prelude.{take}
use Rattle.std.specs.List.{AllByRecursion}
use Rattle.head.specs.Worlds.{Event}
use Rattle.journal.specs.Media.{HasAll, Keeps}
use Rattle.journal.specs.Records.{file_of, Recovers}
use Rattle.keeper.specs.Together.{texts_of}
use Rattle.name_table.specs.Names.{Label}
use Rattle.event_journal.specs.Naming.{Spell}

-- whether a content begins by the kind of an event, or as a batch by number
abbrev pub begins_event : List ℕ → Bool
begins_event [] = false
begins_event (kind ∷ rest) = nat_le 1 kind && nat_le kind 4

-- contents that may stand before the events of a journal
abbrev pub AreInFront : List (List ℕ) → Type 0
AreInFront front = AllByRecursion (λ (content : List ℕ). begins_event content ≡ false) front

-- the contents of a journal that has these in front, and the texts of events
abbrev pub contents_with : List (List ℕ) → List Event → List (List ℕ)
contents_with front events = front ++ texts_of events

-- the file stands for these events after these contents: contents that spell them are its last
-- whole records, before a torn end
pub record Stands (front : List (List ℕ)) (file : List ℕ) (events : List Event) : Type 0 where
  pub before : AreInFront front
  pub contents : List (List ℕ)
  pub names : List Label
  pub spell : Spell contents events names
  pub recovers : Recovers file (front ++ contents)

-- the file stands for these events, and more
abbrev pub StandsAndMore : List (List ℕ) → List Event → List ℕ → Type 0
StandsAndMore front events file = (more : List Event) × Stands front file (events ++ more)

-- the file stands for these events, and the first few of some more
abbrev pub StandsAndSome : List (List ℕ) → List Event → List Event → List ℕ → Type 0
StandsAndSome front events more file = (few : ℕ) × Stands front file (events ++ take few more)

-- A journal that is not closed keeps exactly these events after these contents, and these series
-- are named in it. A crash now leaves a file of these events, and of more at most if it is closed.
pub record Holds {M : Type 0} (shows : M → List ℕ → Type 0) (kept : M → ℕ → Type 0)
    (sound : M → Bool) (moment : M → ℕ) (left_since : M → ℕ → List ℕ → Type 0)
    (front : List (List ℕ)) (medium : M) (len : ℕ) (closed : Bool) (names : List Label)
    (events : List Event) : Type 0 where
  pub before : AreInFront front
  pub contents : List (List ℕ)
  pub after : List Label
  pub spell : Spell contents events after
  pub named : closed ≡ false → names ≡ after
  pub keeps : closed ≡ false → Keeps shows kept sound (front ++ contents) medium len
  pub survives : (left : List ℕ) → left_since medium (moment medium) left
      → StandsAndMore front events left

-- the medium has a file of these events after these contents, in which these series are named; its
-- records end after so many bytes, and it is there for good
pub record HasEvents {M : Type 0} (shows : M → List ℕ → Type 0) (kept : M → ℕ → Type 0)
    (sound : M → Bool) (front : List (List ℕ)) (medium : M) (len : ℕ) (names : List Label)
    (events : List Event) : Type 0 where
  pub file : List ℕ
  pub stands : Stands front file events
  pub named : names ≡ stands.names
  pub has : HasAll shows kept sound file medium
  pub counted : len ≡ length (file_of (front ++ stands.contents))
