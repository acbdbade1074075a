-- When a folder keeps the events of a store.
use Rattle.std.specs.Prelude.{◌≡◌, ◌⊎◌, ℕ, Bool, true, List, [], ◌∷◌, ◌++◌, Option, Some}
use Rattle.data_folder.specs.declared.journal_file.JournalFile.{JournalFile}
use Rattle.data_folder.specs.Folders.{Left}
use Rattle.data_folder.specs.JournalFile.{journal_name, JournalLeft}
use Rattle.data_folder.specs.States.{AreThere}
use Rattle.event_journal.specs.Holding.{Holds}
use Rattle.head.specs.Heads.{BlockPart}
use Rattle.head.specs.Worlds.{Event}
use Rattle.head_record.specs.Saved.{Place, Saved}
use Rattle.head_record.specs.Spelling.{head_texts, IsSaved}
use Rattle.store_folder.specs.Blocks.{BlockFiles, SpellBlock, named_files}
use Rattle.store_folder.specs.Origins.{Origin}
use Rattle.store_folder.specs.States.{AreBytes, IsAfter, StandsFor}
use Rattle.store_folder.specs.Writing.{AreLike}

-- the folder has the files of the block at each place, for good
abbrev pub AreAt : {F : Type 0} → (F → List ℕ → Option (List ℕ) → Type 0)
    → (F → List ℕ → ℕ → Type 0) → List Place → List BlockPart → F → Type 0
AreAt shows kept [] [] f = Unit {0}
AreAt shows kept [] (b ∷ blocks) f = ⊥
AreAt shows kept (p ∷ places) [] f = ⊥
AreAt shows kept (p ∷ places) (b ∷ blocks) f =
    ((files : BlockFiles) × SpellBlock files b × AreThere shows kept (named_files p files) f)
    × AreAt shows kept places blocks f

-- Events since the first world: the head of the journal says the world of the early ones, and the
-- late ones stand after it. The folder has the blocks that the head names.
pub record HoldsAfterHead {F : Type 0} (shows : F → List ℕ → Option (List ℕ) → Type 0)
    (kept : F → List ℕ → ℕ → Type 0) (sound : F → Bool) (moment : F → ℕ)
    (left_since : F → ℕ → Left → Type 0) (first : Origin) (m : JournalFile F) (len : ℕ)
    (closed : Bool) (events : List Event) : Type 0 where
  pub saved : Saved
  pub parts : List BlockPart
  pub early : List Event
  pub late : List Event
  pub all : events ≡ early ++ late
  pub head : IsSaved saved
  pub begins : IsAfter first early saved parts
  pub journal : Holds
      (λ (j : JournalFile F) (bytes : List ℕ). shows j.folder journal_name (Some bytes))
      (λ (j : JournalFile F) (n : ℕ). kept j.folder journal_name n)
      (λ (j : JournalFile F). sound j.folder) (λ (j : JournalFile F). moment j.folder)
      (λ (j : JournalFile F) (t : ℕ) (bytes : List ℕ). JournalLeft left_since j.folder t bytes)
      (head_texts saved) m len closed m.names late
  pub blocks : AreAt shows kept saved.places parts m.folder

-- the same, and then events that were kept last
pub record KeptLast {F : Type 0} (shows : F → List ℕ → Option (List ℕ) → Type 0)
    (kept : F → List ℕ → ℕ → Type 0) (sound : F → Bool) (moment : F → ℕ)
    (left_since : F → ℕ → Left → Type 0) (first : Origin) (m : JournalFile F) (len : ℕ)
    (closed : Bool) (events more : List Event) : Type 0 where
  pub saved : Saved
  pub parts : List BlockPart
  pub early : List Event
  pub late : List Event
  pub all : events ≡ early ++ late
  pub head : IsSaved saved
  pub begins : IsAfter first early saved parts
  pub journal : Holds
      (λ (j : JournalFile F) (bytes : List ℕ). shows j.folder journal_name (Some bytes))
      (λ (j : JournalFile F) (n : ℕ). kept j.folder journal_name n)
      (λ (j : JournalFile F). sound j.folder) (λ (j : JournalFile F). moment j.folder)
      (λ (j : JournalFile F) (t : ℕ) (bytes : List ℕ). JournalLeft left_since j.folder t bytes)
      (head_texts saved) m len closed m.names (late ++ more)
  pub blocks : AreAt shows kept saved.places parts m.folder

-- files of bytes that a crash at some moment from that one on might have left
abbrev pub BytesSince : {F : Type 0} → (F → ℕ → Left → Type 0) → F → ℕ → Left → Type 0
BytesSince left_since f t left = left_since f t left × AreBytes left

-- files of bytes that stand for these events
abbrev pub BytesStandFor : Origin → Left → List Event → Type 0
BytesStandFor first left events = AreBytes left × StandsFor first events left

-- what is left stands for these events, and more
abbrev pub StandsForMore : Origin → List Event → Left → Type 0
StandsForMore first events left = (more : List Event) × StandsFor first (events ++ more) left

-- what is left stands for events that have P
abbrev pub StandsForThese : Origin → (List Event → Type 0) → Left → Type 0
StandsForThese first P left = (events : List Event) × StandsFor first events left × P events

-- the same, and these are the blocks that the head names, and where they lie
abbrev pub HoldsAt : {F : Type 0} → (F → List ℕ → Option (List ℕ) → Type 0)
    → (F → List ℕ → ℕ → Type 0) → (F → Bool) → (F → ℕ) → (F → ℕ → Left → Type 0) → Origin
    → JournalFile F → ℕ → Bool → List Event → List Place → List BlockPart → Type 0
HoldsAt shows kept sound moment left_since first m len closed events places parts =
    (h : HoldsAfterHead shows kept sound moment left_since first m len closed events)
    × (h.saved.places ≡ places) × (h.parts ≡ parts)

-- the folder keeps the events since the first world: after this head, of these blocks, these late
-- ones
abbrev pub HoldsThese : {F : Type 0} → (F → List ℕ → Option (List ℕ) → Type 0)
    → (F → List ℕ → ℕ → Type 0) → (F → Bool) → (F → ℕ) → (F → ℕ → Left → Type 0) → Origin
    → JournalFile F → ℕ → Bool → List Event → Saved → List BlockPart → List Event → Type 0
HoldsThese shows kept sound moment left_since first m len closed events saved parts late =
    (h : HoldsAfterHead shows kept sound moment left_since first m len closed events)
    × (h.saved ≡ saved) × (h.parts ≡ parts) × (h.late ≡ late)

-- The journal was lost on the way to a new head: nothing more is taken, and a crash leaves what
-- stands for these events.
pub record IsLost {F : Type 0} (moment : F → ℕ) (left_since : F → ℕ → Left → Type 0)
    (first : Origin) (m : JournalFile F) (closed : Bool) (events : List Event) : Type 0 where
  pub is_closed : closed ≡ true
  pub leaves : (left : Left) → left_since m.folder (moment m.folder) left
      → StandsForMore first events left

-- The journal was lost on the way from these events to a head that says the world of those: nothing
-- more is taken, and a crash leaves what stands for the former or for the latter.
pub record IsLostBetween {F : Type 0} (moment : F → ℕ) (left_since : F → ℕ → Left → Type 0)
    (first : Origin) (m : JournalFile F) (closed : Bool) (events after : List Event)
    : Type 0 where
  pub is_closed : closed ≡ true
  pub leaves : (left : Left) → left_since m.folder (moment m.folder) left
      → StandsForMore first events left ⊎ StandsForMore first after left

-- the folder keeps these events, or a crash leaves what stands for them and nothing more is taken
abbrev pub HoldsStore : {F : Type 0} → (F → List ℕ → Option (List ℕ) → Type 0)
    → (F → List ℕ → ℕ → Type 0) → (F → Bool) → (F → ℕ) → (F → ℕ → Left → Type 0) → Origin
    → JournalFile F → ℕ → Bool → List Event → Type 0
HoldsStore shows kept sound moment left_since first m len closed events =
    HoldsAfterHead shows kept sound moment left_since first m len closed events
    ⊎ IsLost moment left_since first m closed events

-- the folder keeps these events, or the journal was lost on the way from them to those
abbrev pub HoldsStoreBetween : {F : Type 0} → (F → List ℕ → Option (List ℕ) → Type 0)
    → (F → List ℕ → ℕ → Type 0) → (F → Bool) → (F → ℕ) → (F → ℕ → Left → Type 0) → Origin
    → JournalFile F → ℕ → Bool → List Event → List Event → Type 0
HoldsStoreBetween shows kept sound moment left_since first m len closed events after =
    HoldsAfterHead shows kept sound moment left_since first m len closed events
    ⊎ IsLostBetween moment left_since first m closed events after

-- the folder keeps these events, after a head that names blocks like these at these places
abbrev pub HoldsLike : {F : Type 0} → (F → List ℕ → Option (List ℕ) → Type 0)
    → (F → List ℕ → ℕ → Type 0) → (F → Bool) → (F → ℕ) → (F → ℕ → Left → Type 0) → Origin
    → JournalFile F → ℕ → Bool → List Event → List Place → List BlockPart → Type 0
HoldsLike shows kept sound moment left_since first m len closed events places blocks =
    (h : HoldsAfterHead shows kept sound moment left_since first m len closed events)
    × (h.saved.places ≡ places) × AreLike blocks h.parts

-- the same, and then events that were kept last
abbrev pub LastLike : {F : Type 0} → (F → List ℕ → Option (List ℕ) → Type 0)
    → (F → List ℕ → ℕ → Type 0) → (F → Bool) → (F → ℕ) → (F → ℕ → Left → Type 0) → Origin
    → JournalFile F → ℕ → Bool → List Event → List Event → List Place → List BlockPart → Type 0
LastLike shows kept sound moment left_since first m len closed events more places blocks =
    (h : KeptLast shows kept sound moment left_since first m len closed events more)
    × (h.saved.places ≡ places) × AreLike blocks h.parts

-- it does, or a crash leaves what stands for these events and nothing more is taken
abbrev pub HoldsOrLost : {F : Type 0} → (F → List ℕ → Option (List ℕ) → Type 0)
    → (F → List ℕ → ℕ → Type 0) → (F → Bool) → (F → ℕ) → (F → ℕ → Left → Type 0) → Origin
    → JournalFile F → ℕ → Bool → List Event → List Place → List BlockPart → Type 0
HoldsOrLost shows kept sound moment left_since first m len closed events places blocks =
    HoldsLike shows kept sound moment left_since first m len closed events places blocks
    ⊎ IsLost moment left_since first m closed events

-- it does, or the journal was lost on the way from these events to those
abbrev pub HoldsOrLostBetween : {F : Type 0} → (F → List ℕ → Option (List ℕ) → Type 0)
    → (F → List ℕ → ℕ → Type 0) → (F → Bool) → (F → ℕ) → (F → ℕ → Left → Type 0) → Origin
    → JournalFile F → ℕ → Bool → List Event → List Event → List Place → List BlockPart → Type 0
HoldsOrLostBetween shows kept sound moment left_since first m len closed events after places
    blocks =
    HoldsLike shows kept sound moment left_since first m len closed events places blocks
    ⊎ IsLostBetween moment left_since first m closed events after

-- These were handed last, and may be taken back: their records stand behind those of the events
-- before them, or a head says the world of all of them.
abbrev pub IsLast : {F : Type 0} → (F → List ℕ → Option (List ℕ) → Type 0)
    → (F → List ℕ → ℕ → Type 0) → (F → Bool) → (F → ℕ) → (F → ℕ → Left → Type 0) → Origin
    → JournalFile F → ℕ → Bool → List Event → List Event → List Place → List BlockPart → Type 0
IsLast shows kept sound moment left_since first m len closed events more places blocks =
    LastLike shows kept sound moment left_since first m len closed events more places blocks
    ⊎ HoldsLike shows kept sound moment left_since first m len closed (events ++ more) places
    blocks
