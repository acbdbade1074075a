-- What a crash leaves of a store that is kept in a folder, and what a start finds of it.
use Rattle.std.specs.Prelude.{◌≡◌, ℕ, Bool, true, false, List, [], ◌++◌, Option, None, Some}
use Rattle.std.specs.Prelude.{length}
use Rattle.std.proofs.Common.{inl, inr, refl, sym, ap, subst, ◌∙◌, append_assoc}
use Rattle.data_folder.specs.declared.journal_file.JournalFile.{JournalFile}
use Rattle.data_folder.specs.Folders.{Left, MayLeaveOf}
use Rattle.data_folder.specs.JournalFile.{bytes_in, journal_name}
use Rattle.data_folder.specs.JournalLaws.{left_now}
use Rattle.event_journal.specs.Holding.{Stands}
use Rattle.head.specs.Heads.{BlockPart, world_of}
use Rattle.head.specs.Worlds.{Event, World}
use Rattle.head_record.specs.Saved.{Place, Saved}
use Rattle.head_record.specs.Spelling.{head_texts, IsSaved}
use Rattle.journal.specs.Records.{file_of, Recovers}
use Rattle.journal.proofs.Keeping.{at_rest}
use Rattle.keeper.specs.Finding.{AreAll, AreAllAndMore, IsOfAll, StandsForSome}
use Rattle.store_folder.specs.Holding.{BytesSince, BytesStandFor, HoldsAfterHead, HoldsOrLost}
use Rattle.store_folder.specs.Holding.{HoldsStore, StandsForMore}
use Rattle.store_folder.specs.Origins.{Origin}
use Rattle.store_folder.specs.StoreLaws.{blocks_left, found_here, later}
use Rattle.store_folder.specs.States.{HasKept, IsAfter, IsState, LieAt, StandsFor, StartsWith}
use Rattle.store_folder.specs.States.{started}

-- a file of no bytes has no records
no_file : {X : Type 0} (contents : List (List ℕ)) → Recovers [] contents → X
unfolding file_of
no_file contents r = absurd (let w : [] ≡ file_of contents ++ r.rest = r.whole in cc)

-- a journal of which contents are left is there
pub is_there : (found : Option (List ℕ)) (contents : List (List ℕ))
    → Recovers (bytes_in found) contents → found ≡ Some (bytes_in found)
is_there None contents r = no_file contents r
is_there (Some bytes) contents r = refl

pub has_journal : (left : Left) (front : List (List ℕ)) (events : List Event)
    → Stands front (bytes_in (left journal_name)) events
    → HasKept front events left
has_journal left front events s = record {
  contents = s.contents;
  names = s.names;
  spell = s.spell;
  journal = (
    bytes_in (left journal_name),
    is_there (left journal_name) (front ++ s.contents) s.recovers,
    s.recovers,
  );
}

-- what is left is a store of the early events, and of those after the head
pub stands_for : (first : Origin) (events early late : List Event) (saved : Saved)
    (parts : List BlockPart) (left : Left) → events ≡ early ++ late → IsSaved saved
    → IsAfter first early saved parts → LieAt saved.places parts left
    → HasKept (head_texts saved) late left → StandsFor first events left
stands_for first events early late saved parts left all head begins lie kept = record {
  saved = saved;
  parts = parts;
  early = early;
  late = late;
  all = all;
  begins = begins;
  state = record { head = head; kept = kept; blocks = lie };
}

-- so is a state that is left
pub state_stands : (first : Origin) (events early late : List Event) (saved : Saved)
    (parts : List BlockPart) (left : Left) → events ≡ early ++ late
    → IsAfter first early saved parts → IsState saved parts late left → StandsFor first events left
state_stands first events early late saved parts left all begins state =
    stands_for first events early late saved parts left all state.head begins state.blocks
    state.kept

-- the early events, those after the head, and more
pub regrouped : (events early late more : List Event) → events ≡ early ++ late
    → events ++ more ≡ early ++ (late ++ more)
regrouped events early late more all =
    ap (λ (x : List Event). x ++ more) all ∙ append_assoc early late more

-- A start finds the world of the events for which there stands what is left, and no other.

pub finds_world : (first : Origin) (w : World) (left : Left) (events : List Event)
    → BytesStandFor first left events → IsOfAll first.world events w → StartsWith left w
finds_world first w left events s world = (
  s.0,
  (
    s.1.saved,
    s.1.parts,
    s.1.late,
    s.1.state,
    later first.world s.1.early s.1.late (world_of (started s.1.saved s.1.parts)) w
        s.1.begins.world (subst (λ (x : List Event). IsOfAll first.world x w) s.1.all world),
  ),
)

pub finds_no_other : (first : Origin) (w : World) (left : Left) (events : List Event)
    → BytesStandFor first left events → StartsWith left w → IsOfAll first.world events w
finds_no_other first w left events s made =
    subst (λ (x : List Event). IsOfAll first.world x w) (sym s.1.all)
    (found_here first.world w s.1.saved s.1.parts s.1.early s.1.late left s.1.begins.world s.1.state
    made)

module _ {F : Type 0} (shows : F → List ℕ → Option (List ℕ) → Type 0)
    (kept : F → List ℕ → ℕ → Type 0) (sound : F → Bool) (moment : F → ℕ)
    (left_since : F → ℕ → Left → Type 0)
    (only_now : (f : F) (name : List ℕ) (x : Option (List ℕ)) (n : ℕ) (left : Left) → shows f name x
    → kept f name n → left_since f (moment f) left → MayLeaveOf n x (left name)) where
  -- all that was kept, and more if the journal is closed
  now_after_head : (first : Origin) (m : JournalFile F) (len : ℕ) (closed : Bool)
      (events : List Event) (left : Left)
      → HoldsAfterHead shows kept sound moment left_since first m len closed events
      → left_since m.folder (moment m.folder) left → StandsForMore first events left
  now_after_head first m len closed events left h had =
      let s = h.journal.survives (bytes_in (left journal_name)) (left, had, refl) in (
        s.0,
        stands_for first (events ++ s.0) h.early (h.late ++ s.0) h.saved h.parts left
            (regrouped events h.early h.late s.0 h.all) h.head h.begins
            (blocks_left shows kept h.saved.places h.parts m.folder left h.blocks
            (λ n x k away shown durable. only_now m.folder n x k left shown durable had))
            (has_journal left (head_texts h.saved) (h.late ++ s.0) s.1),
      )

  -- exactly that while it is open: the head, its blocks and the events after it
  pub settled_state : (first : Origin) (m : JournalFile F) (len : ℕ) (closed : Bool)
      (events : List Event) (left : Left)
      (h : HoldsAfterHead shows kept sound moment left_since first m len closed events)
      → closed ≡ false → left_since m.folder (moment m.folder) left
      → IsState h.saved h.parts h.late left
  settled_state first m len closed events left h opened had =
      let bytes = bytes_in (left journal_name) in
      let contents = head_texts h.saved ++ h.journal.contents in
      let k = h.journal.keeps opened in
      let front = left_now (length (file_of contents)) (file_of contents) bytes
      (left journal_name) refl
      (only_now m.folder journal_name (Some (file_of contents)) (length (file_of contents)) left
      k.has.all k.has.durable had) in
      record {
        head = h.head;
        kept = has_journal left (head_texts h.saved) h.late (record {
          before = h.journal.before;
          contents = h.journal.contents;
          names = h.journal.after;
          spell = h.journal.spell;
          recovers = at_rest contents bytes k.each front;
        });
        blocks = blocks_left shows kept h.saved.places h.parts m.folder left h.blocks
            (λ n x k away shown durable. only_now m.folder n x k left shown durable had);
      }

  pub settled_after_head : (first : Origin) (m : JournalFile F) (len : ℕ) (closed : Bool)
      (events : List Event) (left : Left)
      → HoldsAfterHead shows kept sound moment left_since first m len closed events
      → closed ≡ false → left_since m.folder (moment m.folder) left → StandsFor first events left
  settled_after_head first m len closed events left h opened had =
      state_stands first events h.early h.late h.saved h.parts left h.all h.begins
      (settled_state first m len closed events left h opened had)

  -- whatever blocks it names
  pub as_store : (first : Origin) (m : JournalFile F) (len : ℕ) (closed : Bool)
      (events : List Event) (places : List Place) (blocks : List BlockPart)
      → HoldsOrLost shows kept sound moment left_since first m len closed events places blocks
      → HoldsStore shows kept sound moment left_since first m len closed events
  as_store first m len closed events places blocks (inl h) = inl h.0
  as_store first m len closed events places blocks (inr lost) = inr lost

  pub now_found : (first : Origin) (m : JournalFile F) (len : ℕ) (closed : Bool)
      (events : List Event) (left : Left)
      → HoldsStore shows kept sound moment left_since first m len closed events
      → left_since m.folder (moment m.folder) left → StandsForMore first events left
  now_found first m len closed events left (inl h) had =
      now_after_head first m len closed events left h had
  now_found first m len closed events left (inr lost) had = lost.leaves left had

  pub open_head : (first : Origin) (m : JournalFile F) (len : ℕ) (closed : Bool)
      (events : List Event)
      → HoldsStore shows kept sound moment left_since first m len closed events → closed ≡ false
      → HoldsAfterHead shows kept sound moment left_since first m len closed events
  open_head first m len closed events (inl h) opened = h
  open_head first m len closed events (inr lost) opened =
      absurd (let a : true ≡ false = sym lost.is_closed ∙ opened in cc)

  pub settled_found : (first : Origin) (m : JournalFile F) (len : ℕ) (closed : Bool)
      (events : List Event) (left : Left)
      → HoldsStore shows kept sound moment left_since first m len closed events
      → closed ≡ false → left_since m.folder (moment m.folder) left → StandsFor first events left
  settled_found first m len closed events left h opened had =
      settled_after_head first m len closed events left
      (open_head first m len closed events h opened) opened had

  -- as a keeper says it

  pub now_kept : (first : Origin) (m : JournalFile F) (len : ℕ) (closed : Bool)
      (events : List Event) (left : Left)
      → HoldsStore shows kept sound moment left_since first m len closed events
      → BytesSince left_since m.folder (moment m.folder) left
      → StandsForSome (λ (l : Left) (es : List Event). BytesStandFor first l es)
      (AreAllAndMore events) left
  now_kept first m len closed events left h had =
      let s = now_found first m len closed events left h had.0 in
      (events ++ s.0, (had.1, s.1), (s.0, refl))

  pub settled_kept : (first : Origin) (m : JournalFile F) (len : ℕ) (closed : Bool)
      (events : List Event) (left : Left)
      → HoldsStore shows kept sound moment left_since first m len closed events
      → closed ≡ false → BytesSince left_since m.folder (moment m.folder) left
      → StandsForSome (λ (l : Left) (es : List Event). BytesStandFor first l es)
      (AreAll events) left
  settled_kept first m len closed events left h opened had =
      (events, (had.1, settled_found first m len closed events left h opened had.0), refl)
