-- What contents spell, where they may name series by number.
use Rattle.std.specs.Prelude.{◌≡◌, ◌⊎◌, ℕ, false, List, [], ◌∷◌, ◌++◌, Result, Ok, Err}
use Rattle.head.specs.Worlds.{Event as Change}
use Rattle.event_text.specs.declared.error.EventError.TheVariants.{Text}
use Rattle.event_text.specs.declared.error.TextError.TheVariants as texts
use Rattle.event_text.specs.Outcome.{FollowsFrom}
use Rattle.event_text.specs.Reading.{event_of}
use Rattle.event_text.specs.Spelling.{event_text}
use Rattle.journal.specs.Group.{AreRecords}
use Rattle.journal.specs.Records.{IsContent}
use Rattle.keeper.specs.Together.{IsKept}
use Rattle.name_table.specs.Names.{Label}
use Rattle.numbered_text.specs.declared.error.NumberError.{NumberError}
use Rattle.numbered_text.specs.declared.error.NumberError.TheVariants as faults
use Rattle.numbered_text.specs.Reading.{is_numbered, plain_of}
use Rattle.event_journal.specs.declared.error.ContentError.{ContentError}
use Rattle.event_journal.specs.declared.error.ContentError.TheVariants.{Event, Number, Named}

-- a content stands for the text of an event by the names that there are, and these are named then
pub record SpellsBy (names : List Label) (content : List ℕ) (e : Change) (after : List Label)
    : Type 0 where
  pub text : plain_of names content ≡ Ok (event_text e, after)
  pub kept : IsKept e

-- contents stand for the texts of events, each by the names that those before it left
abbrev pub SpellFrom : List Label → List (List ℕ) → List Change → List Label → Type 0
SpellFrom names [] [] after = names ≡ after
SpellFrom names [] (e ∷ events) after = ⊥
SpellFrom names (content ∷ contents) [] after = ⊥
SpellFrom names (content ∷ contents) (e ∷ events) after =
    (mid : List Label) × SpellsBy names content e mid × SpellFrom mid contents events after

-- the contents after a head spell these events, and these series are named then
abbrev pub Spell : List (List ℕ) → List Change → List Label → Type 0
Spell contents events after = SpellFrom [] contents events after

-- the bytes are records that spell these events by the names that there are
pub record AreNext (names : List Label) (records : List ℕ) (events : List Change)
    (after : List Label) : Type 0 where
  pub contents : List (List ℕ)
  pub are : AreRecords contents records
  pub spell : SpellFrom names contents events after

-- a content of today's kinds
pub record IsPlain (content : List ℕ) : Type 0 where
  pub fits : IsContent content
  pub plain : is_numbered content ≡ false

-- a record was added, of a content that stands for this one
pub record IsNumbered (names : List Label) (content : List ℕ) (after : List Label)
    (old new : List ℕ) : Type 0 where
  pub made : List ℕ
  pub stands : plain_of names made ≡ Ok (content, after)
  pub added : (contents : List (List ℕ)) → AreRecords contents old
      → AreRecords (contents ++ made ∷ []) new

-- the fault of a content by number, as it is told
abbrev pub content_error : NumberError → ContentError
content_error faults.Memory = Event (Text texts.Memory)
content_error faults.Field = Event (Text texts.Field)
content_error faults.Bounds = Event (Text texts.Bounds)
content_error faults.Rest = Event (Text texts.Rest)
content_error faults.Number = Number
content_error faults.Named = Named

-- the answer by the text that a content stands for, or by why it stands for none
abbrev pub FollowsPlain : Result (List ℕ × List Label) NumberError → Result Change ContentError
    → Type 0
FollowsPlain (Ok plain) (Ok e) = FollowsFrom (event_of plain.0) (Ok e)
FollowsPlain (Ok plain) (Err (Event f)) = FollowsFrom (event_of plain.0) (Err f)
FollowsPlain (Ok plain) (Err Number) = ⊥
FollowsPlain (Ok plain) (Err Named) = ⊥
FollowsPlain (Err g) (Ok e) = ⊥
FollowsPlain (Err g) (Err f) = (f ≡ content_error g) ⊎ (f ≡ Event (Text texts.Memory))

-- the answer by what a content spells by the names that there are
abbrev pub FollowsBy : List Label → List ℕ → Result Change ContentError → Type 0
FollowsBy names content result = FollowsPlain (plain_of names content) result
