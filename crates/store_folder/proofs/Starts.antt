-- A store that goes on, and one that begins.
use Rattle.std.proofs.Common.{◌≡◌, ℕ, zero, suc, ◌≤◌, ◌<◌, ◌+◌, Bool, true, false, List, [], ◌∷◌, ◌++◌, Option}
use Rattle.std.proofs.Common.{None, Some, length, take, Result, Ok, Err, refl, sym, ap, subst, subst₂, ◌∙◌}
use Rattle.std.proofs.Common.{◌≢◌, arith, inl, inr, ⊎_elim, ℤ, Vec}
use Rattle.std.specs.declared.alloc.Global.{Global}
use Rattle.std.specs.Prelude.{IfOk, IfErr, OnOk, slice_index_or}
use Rattle.std.proofs.lemmas.List.{append-nil, take_more}
use Rattle.block_folder.specs.declared.values.Values.{Values}
use Rattle.data_folder.specs.declared.journal_file.JournalFile.{JournalFile}
use Rattle.data_folder.specs.Folders.{Left, LeavesOnly, MayLeaveOf}
use Rattle.data_folder.specs.JournalFile.{bytes_in, journal_name, JournalLeft}
use Rattle.data_folder.specs.JournalLaws.{StaysBeside, left_now}
use Rattle.data_folder.specs.Rolls as rolls
use Rattle.data_folder.specs.States.{IsNoneOrNew}
use Rattle.data_folder.proofs.Moments as folder
use Rattle.event_journal.specs.Holding.{HasEvents, Holds, Stands, StandsAndSome, contents_with}
use Rattle.event_journal.proofs.Kept.{holds_open}
use Rattle.head.specs.Blocks.{opening_of}
use Rattle.head.specs.Heads.{BlockPart, HeadSeries, SnapshotParts, world_of}
use Rattle.head.specs.Refusals.{Refusal}
use Rattle.head.specs.Resuming.{Denies, MayStand, resumed}
use Rattle.head.specs.Kept.{KeepsBlocks}
use Rattle.head.specs.Worlds.{Event, World, replayed, stepped}
use Rattle.head.specs.declared.error.ResumeError.{ResumeError}
use Rattle.head_record.specs.Saved.{Place, Saved}
use Rattle.head_record.specs.Spelling.{head_texts, IsSaved}
use Rattle.head_record.proofs.Worlds.{in_front}
use Rattle.journal.specs.declared.error.JournalError.{JournalError}
use Rattle.journal.specs.Contents.{contents_in}
use Rattle.journal.specs.Group.{IsJournalText}
use Rattle.journal.specs.Media as media
use Rattle.journal.proofs.Moments as journal
use Rattle.keeper.specs.Finding.{AreAllAndSome}
use Rattle.store_folder.specs.declared.error.StartError.{StartError}
use Rattle.store_folder.specs.declared.journals.FoundJournal.{FoundJournal}
use Rattle.store_folder.specs.Finding.{IsFoundStore}
use Rattle.store_folder.specs.Holding.{HoldsAfterHead, HoldsAt, HoldsLike, StandsForThese}
use Rattle.store_folder.specs.KeeperLaws.{has_journal, stands_for}
use Rattle.store_folder.specs.Origins.{Origin, beginning}
use Rattle.store_folder.specs.Starting.{DeniesStart, GoesOn, IsNoneOrNothing, LeadTo}
use Rattle.store_folder.specs.Starting.{IsRefusedEvent}
use Rattle.store_folder.specs.Starting.{StartFinds}
use Rattle.store_folder.specs.Starting.{nothing_with}
use Rattle.store_folder.specs.States.{HasWorld, IsAfter, IsState, StandsFor, origin_of, started}
use Rattle.store_folder.specs.StoreLaws.{blocks_left, blocks_stay, whole_left}
use Rattle.store_folder.specs.Writing.{AreLike}
use Rattle.store_folder.proofs.Kept.{store_leaves}

-- the snapshot of a head and blocks, and the events after it

is_started : (saved : Saved) (parts : List BlockPart) (floor : ℤ) (head : List HeadSeries)
    (s : SnapshotParts) → s ≡ resumed parts floor head → floor ≡ saved.floor → head ≡ saved.head
    → s ≡ started saved parts
is_started saved parts floor head s is floors heads =
    is
    ∙ (ap (λ (f : ℤ). resumed parts f head) floors
    ∙ ap (λ (h : List HeadSeries). resumed parts saved.floor h) heads)

pub goes_on : (saved : Saved) (parts : List BlockPart) (floor : ℤ) (head : List HeadSeries)
    (events given : List Event) (s : SnapshotParts) (r : Result SnapshotParts StartError)
    → s ≡ resumed parts floor head → floor ≡ saved.floor → head ≡ saved.head → given ≡ events
    → IfOk r (λ x. replayed (world_of s) given ≡ Ok (world_of x))
    → IfOk r (λ x. HasWorld saved parts events (world_of x))
goes_on saved parts floor head events given s (Ok x) is floors heads same h =
    subst (λ (es : List Event). replayed (world_of (started saved parts)) es ≡ Ok (world_of x)) same
    (subst (λ (y : SnapshotParts). replayed (world_of y) given ≡ Ok (world_of x))
    (is_started saved parts floor head s is floors heads) h)
goes_on saved parts floor head events given s (Err e) is floors heads same h = tt

-- it is reached event by event

lead_last : (s t u : SnapshotParts) (events : List Event) (e : Event) → LeadTo s events t
    → stepped (world_of t) e ≡ Ok (world_of u) → KeepsBlocks e t u.blocks
    → LeadTo s (events ++ e ∷ []) u
lead_last s t u [] e same step kept = (
  u,
  subst (λ (x : SnapshotParts). stepped (world_of x) e ≡ Ok (world_of u)) same step,
  subst (λ (x : SnapshotParts). KeepsBlocks e x u.blocks) same kept,
  refl,
)
lead_last s t u (d ∷ events) e lead step kept =
    (lead.0, lead.1, lead.2, lead_last lead.0 t u events e lead.3 step kept)

pub leads_more : (s t u : SnapshotParts) (events : List Event) (at : ℕ) (event : Event)
    → at < length events → event ≡ slice_index_or events at event → LeadTo s (take at events) t
    → stepped (world_of t) event ≡ Ok (world_of u) → KeepsBlocks event t u.blocks
    → LeadTo s (take (at + 1) events) u
leads_more s t u events at event inside is lead step kept =
    subst (λ (es : List Event). LeadTo s es u)
    (sym (take_more events at event inside
    ∙ ap (λ (e : Event). take at events ++ e ∷ []) (sym is)))
    (lead_last s t u (take at events) event lead step kept)

pub reaches : (saved : Saved) (parts : List BlockPart) (floor : ℤ) (head : List HeadSeries)
    (events given : List Event) (s : SnapshotParts) (r : Result SnapshotParts StartError)
    → s ≡ resumed parts floor head → floor ≡ saved.floor → head ≡ saved.head → given ≡ events
    → IfOk r (λ x. LeadTo s given x) → IfOk r (λ x. LeadTo (started saved parts) events x)
reaches saved parts floor head events given s (Ok x) is floors heads same h =
    subst (λ (es : List Event). LeadTo (started saved parts) es x) same
    (subst (λ (y : SnapshotParts). LeadTo y given x)
    (is_started saved parts floor head s is floors heads) h)
reaches saved parts floor head events given s (Err e) is floors heads same h = tt

denies_event : (saved : Saved) (parts : List BlockPart) (events : List Event) (e : StartError)
    → IsRefusedEvent (world_of (started saved parts)) events e → DeniesStart saved parts events e
denies_event saved parts events e h =
    subst (λ (x : StartError). DeniesStart saved parts events x) (sym h.is) h.there

pub does_not_go_on : (saved : Saved) (parts : List BlockPart) (floor : ℤ)
    (head : List HeadSeries) (events given : List Event) (s : SnapshotParts)
    (r : Result SnapshotParts StartError)
    → s ≡ resumed parts floor head → floor ≡ saved.floor → head ≡ saved.head → given ≡ events
    → IfErr r (λ e. IsRefusedEvent (world_of s) given e)
    → IfErr r (λ e. DeniesStart saved parts events e)
does_not_go_on saved parts floor head events given s (Ok x) is floors heads same h = tt
does_not_go_on saved parts floor head events given s (Err e) is floors heads same h =
    denies_event saved parts events e
    (subst (λ (es : List Event). IsRefusedEvent (world_of (started saved parts)) es e) same
    (subst (λ (y : SnapshotParts). IsRefusedEvent (world_of y) given e)
    (is_started saved parts floor head s is floors heads) h))

pub denied : (saved : Saved) (parts : List BlockPart) (floor : ℤ) (head : List HeadSeries)
    (e : ResumeError) → Denies e (MayStand (resumed parts floor head)) → floor ≡ saved.floor
    → head ≡ saved.head → Denies e (MayStand (started saved parts))
denied saved parts floor head e h floors heads =
    subst (λ (s : SnapshotParts). Denies e (MayStand s))
    (is_started saved parts floor head (resumed parts floor head) refl floors heads) h

pub stands_started : {A E : Type 0} (r : Result A E) (saved : Saved) (parts : List BlockPart)
    (floor : ℤ) (head : List HeadSeries) → MayStand (resumed parts floor head)
    → floor ≡ saved.floor → head ≡ saved.head → OnOk r (MayStand (started saved parts))
stands_started (Ok x) saved parts floor head h floors heads =
    subst (λ (s : SnapshotParts). MayStand s)
    (is_started saved parts floor head (resumed parts floor head) refl floors heads) h
stands_started (Err e) saved parts floor head h floors heads = tt

-- what a folder has, between two runs

abbrev fine : World → Result World Refusal
fine w = Ok w

abbrev no_events : List Event
no_events = []

take_none : (n : ℕ) → take n no_events ≡ []
take_none zero = refl
take_none (suc n) = refl

nothing_more : (events found : List Event) → AreAllAndSome events [] found → found ≡ events
nothing_more events found h =
    h.1 ∙ (ap (λ (x : List Event). events ++ x) (take_none h.0) ∙ append-nil events)

-- the head that was found says what was before all events
pub after_none : (first : Origin) (saved : Saved) (parts : List BlockPart)
    → first ≡ origin_of saved parts → IsAfter first [] saved parts
after_none first saved parts e = record {
  world = ap (λ (x : Origin). fine x.world) e;
  values = sym (ap (λ (x : Origin). x.values) e);
}

stands_so : (front : List (List ℕ)) (events : List Event) (bytes : List ℕ)
    → Stands front bytes events → StandsAndSome front events [] bytes
stands_so front events bytes s =
    (0, subst (λ (x : List Event). Stands front bytes x) (sym (append-nil events)) s)

module _ {F : Type 0} (shows : F → List ℕ → Option (List ℕ) → Type 0)
    (kept : F → List ℕ → ℕ → Type 0) (sound : F → Bool) (moment : F → ℕ)
    (left_since : F → ℕ → Left → Type 0)
    (only_now : (f : F) (name : List ℕ) (x : Option (List ℕ)) (n : ℕ) (left : Left) → shows f name x
    → kept f name n → left_since f (moment f) left → MayLeaveOf n x (left name)) where
  abbrev HoldsHere : List (List ℕ) → JournalFile F → ℕ → Bool → List Event → Type 0
  HoldsHere front m len closed events =
      Holds (λ (j : JournalFile F) (bytes : List ℕ). shows j.folder journal_name (Some bytes))
      (λ (j : JournalFile F) (n : ℕ). kept j.folder journal_name n)
      (λ (j : JournalFile F). sound j.folder) (λ (j : JournalFile F). moment j.folder)
      (λ (j : JournalFile F) (t : ℕ) (bytes : List ℕ). JournalLeft left_since j.folder t bytes)
      front m len closed m.names events

  -- what a crash leaves of what the folder has
  found_now : (first : Origin) (f : F) (j : FoundJournal) (parts : List BlockPart) (left : Left)
      → IsFoundStore shows kept j parts f → first ≡ origin_of j.head parts
      → left_since f (moment f) left → StandsFor first j.events.items left
  found_now first f j parts left h begins had =
      stands_for first j.events.items [] j.events.items j.head parts left refl h.journal.is.head
      (after_none first j.head parts begins)
      (blocks_left shows kept j.head.places parts f left h.blocks
      (λ n x k away shown durable. only_now f n x k left shown durable had))
      (record {
        contents = h.journal.is.stands.contents;
        names = h.journal.is.stands.names;
        spell = h.journal.is.stands.spell;
        journal = (
          h.file,
          whole_left h.file (left journal_name)
              (only_now f journal_name (Some h.file) (length h.file) left h.has.shown h.has.durable
              had),
          h.journal.is.stands.recovers,
        );
      })

  pub stays_found : (first : Origin) (f : F) (j : FoundJournal) (parts : List BlockPart)
      → IsFoundStore shows kept j parts f → first ≡ origin_of j.head parts
      → StartFinds moment left_since f f first j.events.items
  stays_found first f j parts h begins =
      folder.started moment left_since f (StandsFor first j.events.items)
      (λ left had. found_now first f j parts left h begins had)

  -- the journal has the events that were found
  pub events_found : (m : JournalFile F) (j : FoundJournal) (parts : List BlockPart)
      → IsFoundStore shows kept j parts m.folder → sound m.folder ≡ true → m.names ≡ j.names
      → HasEvents (λ (x : JournalFile F) (bytes : List ℕ). shows x.folder journal_name (Some bytes))
      (λ (x : JournalFile F) (n : ℕ). kept x.folder journal_name n)
      (λ (x : JournalFile F). sound x.folder) (head_texts j.head) m j.len m.names j.events.items
  events_found m j parts h is_sound same = record {
    file = h.file;
    stands = h.journal.is.stands;
    named = same ∙ h.journal.named;
    has = record { all = h.has.shown; durable = h.has.durable; is_sound = is_sound };
    counted = h.journal.counted;
  }

  abbrev pub holds_found : (first : Origin) (f : F) (m : JournalFile F) (len : ℕ) (closed : Bool)
      (j : FoundJournal) (parts : List BlockPart) → IsFoundStore shows kept j parts f
      → first ≡ origin_of j.head parts
      → StaysBeside shows kept moment left_since f m.folder
      → HoldsHere (head_texts j.head) m len closed j.events.items
      → HoldsAfterHead shows kept sound moment left_since first m len closed j.events.items
  holds_found first f m len closed j parts h begins beside holds = record {
    saved = j.head;
    parts = parts;
    early = [];
    late = j.events.items;
    all = refl;
    head = h.journal.is.head;
    begins = after_none first j.head parts begins;
    journal = holds;
    blocks = blocks_stay shows kept j.head.places parts f m.folder h.blocks beside.same
        beside.durable;
  }

  -- a start finds these events, after a crash while the torn end is cut off
  pub resume_finds : (first : Origin) (old new : JournalFile F) (j : FoundJournal)
      (parts : List BlockPart) → IsFoundStore shows kept j parts old.folder
      → first ≡ origin_of j.head parts
      → StaysBeside shows kept moment left_since old.folder new.folder
      → media.LeavesOnly (λ (x : JournalFile F). moment x.folder)
      (λ (x : JournalFile F) (t : ℕ) (bytes : List ℕ). JournalLeft left_since x.folder t bytes)
      old new (λ (left : List ℕ). Stands (head_texts j.head) left j.events.items)
      → StartFinds moment left_since old.folder new.folder first j.events.items
  resume_finds first old new j parts h begins beside moments =
      let events = j.events.items in
      folder.weaker moment left_since old.folder new.folder
      (StandsForThese first (AreAllAndSome events [])) (StandsFor first events)
      (λ left s. subst (λ (es : List Event). StandsFor first es left)
      (nothing_more events s.0 s.2) s.1)
      (store_leaves shows kept sound moment left_since only_now first old new j.head parts
      [] events events [] refl h.journal.is.head (after_none first j.head parts begins)
      h.blocks beside
      (journal.weaker (λ (x : JournalFile F). moment x.folder)
      (λ (x : JournalFile F) (t : ℕ) (bytes : List ℕ). JournalLeft left_since x.folder t bytes)
      old new (λ (left : List ℕ). Stands (head_texts j.head) left events)
      (λ (left : List ℕ). StandsAndSome (head_texts j.head) events [] left)
      (λ left s. stands_so (head_texts j.head) events left s) moments))

  -- the head and the events that were found are left
  state_now : (f : F) (j : FoundJournal) (parts : List BlockPart) (left : Left)
      → IsFoundStore shows kept j parts f → left_since f (moment f) left
      → IsState j.head parts j.events.items left
  state_now f j parts left h had = record {
    head = h.journal.is.head;
    kept = record {
      contents = h.journal.is.stands.contents;
      names = h.journal.is.stands.names;
      spell = h.journal.is.stands.spell;
      journal = (
        h.file,
        whole_left h.file (left journal_name)
            (only_now f journal_name (Some h.file) (length h.file) left h.has.shown h.has.durable
            had),
        h.journal.is.stands.recovers,
      );
    };
    blocks = blocks_left shows kept j.head.places parts f left h.blocks
        (λ n x k away shown durable. only_now f n x k left shown durable had);
  }

  pub state_stays : (f : F) (j : FoundJournal) (parts : List BlockPart)
      → IsFoundStore shows kept j parts f
      → LeavesOnly moment left_since f f (IsState j.head parts j.events.items)
  state_stays f j parts h =
      folder.started moment left_since f (IsState j.head parts j.events.items)
      (λ left had. state_now f j parts left h had)

  pub resume_leaves : (old new : JournalFile F) (j : FoundJournal) (parts : List BlockPart)
      → IsFoundStore shows kept j parts old.folder
      → StaysBeside shows kept moment left_since old.folder new.folder
      → media.LeavesOnly (λ (x : JournalFile F). moment x.folder)
      (λ (x : JournalFile F) (t : ℕ) (bytes : List ℕ). JournalLeft left_since x.folder t bytes)
      old new (λ (left : List ℕ). Stands (head_texts j.head) left j.events.items)
      → LeavesOnly moment left_since old.folder new.folder (IsState j.head parts j.events.items)
  resume_leaves old new j parts h beside moments =
      record {
        later = beside.later;
        each = λ left since. state_since left since
            (λ n x k away shown durable. ⊎_elim
            (λ past. only_now old.folder n x k left shown durable past)
            (λ now. now.1 n x k away shown durable)
            (beside.before (moment old.folder) left (omega arith) since));
        before = λ t left le had. ⊎_elim (λ past. inl past)
            (λ now. inr (state_since left now.0 now.1)) (beside.before t left le had);
      }
    where
      state_since : (left : Left) → left_since new.folder (moment old.folder) left
          → ((n : List ℕ) (x : Option (List ℕ)) (k : ℕ) → n ≢ journal_name
          → shows old.folder n x → kept old.folder n k → MayLeaveOf k x (left n))
          → IsState j.head parts j.events.items left
      state_since left since may = record {
        head = h.journal.is.head;
        kept = has_journal left (head_texts j.head) j.events.items
            (moments.each (bytes_in (left journal_name)) (left, since, refl));
        blocks = blocks_left shows kept j.head.places parts old.folder left h.blocks may;
      }

-- a store that begins

-- the text of the contents of a head is that of a journal of this head
pub head_text : (contents given : List (Vec ℕ Global)) (head : Saved)
    (r : Result (Vec ℕ Global) JournalError) → given ≡ contents
    → contents_in contents ≡ head_texts head
    → IfOk r (λ text. IsJournalText (contents_in given) text.items)
    → IfOk r (λ text. IsJournalText (contents_with (head_texts head) []) text.items)
head_text contents given head (Ok text) same texts h =
    subst (λ (cs : List (List ℕ)). IsJournalText cs text.items)
    (ap (λ (vs : List (Vec ℕ Global)). contents_in vs) same
    ∙ (texts ∙ sym (append-nil (head_texts head)))) h
head_text contents given head (Err e) same texts h = tt

is_nothing : (values : Values) (left : Left) → IsSaved (nothing_with values)
    → IsNoneOrNew (contents_with (head_texts (nothing_with values)) []) left
    → IsNoneOrNothing values left
is_nothing values left saved h =
    ⊎_elim (λ none. inl none)
    (λ new. inr (record {
      head = saved;
      kept = record { contents = []; names = []; spell = refl; journal = new };
      blocks = tt;
    })) h

module _ {F : Type 0} (moment : F → ℕ) (left_since : F → ℕ → Left → Type 0) where
  pub leaves_nothing : (values : Values) (old new : F) → IsSaved (nothing_with values)
      → LeavesOnly moment left_since old new
      (IsNoneOrNew (contents_with (head_texts (nothing_with values)) []))
      → LeavesOnly moment left_since old new (IsNoneOrNothing values)
  leaves_nothing values old new saved h = record {
    later = h.later;
    each = λ left had. is_nothing values left saved (h.each left had);
    before = λ t left le had. ⊎_elim (λ past. inl past)
        (λ now. inr (is_nothing values left saved now)) (h.before t left le had);
  }

  -- where nothing was written
  pub none_yet : (values : Values) (shows : F → List ℕ → Option (List ℕ) → Type 0) (kept : F → List ℕ → ℕ → Type 0)
      → ((f : F) (name : List ℕ) (x : Option (List ℕ)) (n : ℕ) (left : Left) → shows f name x
      → kept f name n → left_since f (moment f) left → MayLeaveOf n x (left name))
      → (f : F) → shows f journal_name None → kept f journal_name 0
      → LeavesOnly moment left_since f f (IsNoneOrNothing values)
  none_yet values shows kept only_now f shown durable =
      folder.started moment left_since f (IsNoneOrNothing values)
      (λ left had. inl (only_now f journal_name None 0 left shown durable had))

module _ {F : Type 0} (shows : F → List ℕ → Option (List ℕ) → Type 0)
    (kept : F → List ℕ → ℕ → Type 0) (sound : F → Bool) (moment : F → ℕ)
    (left_since : F → ℕ → Left → Type 0)
    (only_now : (f : F) (name : List ℕ) (x : Option (List ℕ)) (n : ℕ) (left : Left) → shows f name x
    → kept f name n → left_since f (moment f) left → MayLeaveOf n x (left name))
    (earlier : (f : F) (t u : ℕ) (left : Left) → t ≤ u → u ≤ moment f → left_since f u left
    → left_since f t left) where
  abbrev pub holds_nothing : (first : Origin) (values : Values) (m : JournalFile F) (len : ℕ)
      (closed : Bool) → first ≡ beginning values → IsSaved (nothing_with values) → m.names ≡ []
      → rolls.Keeps shows kept sound (contents_with (head_texts (nothing_with values)) []) m.folder
      len → HoldsAfterHead shows kept sound moment left_since first m len closed []
  holds_nothing first values m len closed begins saved named k = record {
    saved = nothing_with values;
    parts = [];
    early = [];
    late = [];
    all = refl;
    head = saved;
    begins = after_none first (nothing_with values) [] begins;
    journal = holds_open
        (λ (j : JournalFile F) (bytes : List ℕ). shows j.folder journal_name (Some bytes))
        (λ (j : JournalFile F) (n : ℕ). kept j.folder journal_name n)
        (λ (j : JournalFile F). sound j.folder) (λ (j : JournalFile F). moment j.folder)
        (λ (j : JournalFile F) (t : ℕ) (bytes : List ℕ). JournalLeft left_since j.folder t bytes)
        (λ j bytes n left shown durable had. left_now n bytes left (had.0 journal_name) had.2
        (only_now j.folder journal_name (Some bytes) n had.0 shown durable had.1))
        (λ j t u left le fits had. (had.0, earlier j.folder t u had.0 le fits had.1, had.2))
        (head_texts (nothing_with values)) [] m len closed m.names [] []
        (in_front (nothing_with values)) refl named (record {
          each = k.each;
          has = record { all = k.file.shown; durable = k.file.durable; is_sound = k.is_sound };
          counted = k.counted;
        });
    blocks = tt;
  }

  -- a store that begins goes on
  pub begun_goes_on : (first : Origin) (values : Values) (m : JournalFile F) (len : ℕ) (closed : Bool)
      (events : List Event) (places : List Place) (blocks : List BlockPart) (s : SnapshotParts)
      → first ≡ beginning values → s ≡ opening_of [] → events ≡ [] → places ≡ []
      → blocks ≡ [] → closed ≡ false
      → HoldsAt shows kept sound moment left_since first m len closed [] [] []
      → GoesOn shows kept sound moment left_since first m len closed events places blocks s
  begun_goes_on first values m len closed events places blocks s begins is none nowhere nothing opened at =
      record {
        world = ap (λ (es : List Event). replayed first.world es) none
            ∙ ap fine (ap (λ (x : Origin). x.world) begins ∙ ap world_of (sym is));
        holds = subst₂ (λ (ps : List Place) (bs : List BlockPart).
            HoldsLike shows kept sound moment left_since first m len closed events ps bs)
            (sym nowhere) (sym nothing)
            (subst (λ (es : List Event).
            HoldsLike shows kept sound moment left_since first m len closed es [] []) (sym none)
            (at.0, at.1, subst (λ (bs : List BlockPart). AreLike [] bs) (sym at.2) tt));
        is_open = opened;
      }
