-- A folder that is opened to be changed: what was found, and where a store is begun.
use Rattle.std.proofs.Common.{◌≡◌, ◌⊎◌, ◌+◌, inl, inr, ⊎_elim, ℕ, ◌≤◌, List, [], ◌∷◌, Option, None}
use Rattle.std.proofs.Common.{Some, Result, Ok, refl, sym, ap, arith, map, subst, ◌∙◌}
use Rattle.std.proofs.Common.{Bool, true, false}
use Rattle.std.specs.Prelude.{IfSome}
use Rattle.block_folder.specs.declared.values.Values.{Values}
use Rattle.block_folder.specs.declared.values.Values.TheVariants.{Whole}
use Rattle.data_folder.specs.declared.journal_file.JournalFile.{JournalFile}
use Rattle.data_folder.specs.Folders.{HasFile, KeepsOthers, Left, LeavesOnly, MayLeaveOf, Untouched}
use Rattle.data_folder.specs.JournalFile.{journal_name, next_name}
use Rattle.data_folder.proofs.Moments.{joined, weaker}
use Rattle.head.specs.Blocks.{part_in}
use Rattle.head.specs.Heads.{BlockPart, SnapshotParts, world_of}
use Rattle.head.specs.Refusals.{Refusal}
use Rattle.head.specs.Resuming.{MayStand}
use Rattle.head.specs.Worlds.{Event, World, replayed}
use Rattle.head_record.specs.Saved.{Place, Saved}
use Rattle.store_folder.specs.declared.journals.FoundJournal.{FoundJournal}
use Rattle.store_folder.specs.declared.error.StartError.{StartError}
use Rattle.store_folder.specs.declared.error.StartError.TheVariants.{Medium}
use Rattle.store_folder.specs.declared.reading.FoundStore.{FoundStore}
use Rattle.store_folder.specs.Faults.{IsStoreOf, TellsFiles}
use Rattle.store_folder.specs.Finding.{IsFoundStore}
use Rattle.store_folder.specs.Holding.{AreAt}
use Rattle.store_folder.specs.Origins.{Origin, beginning}
use Rattle.store_folder.specs.Plain.{DeniesText, HasEither, StandsAlone}
use Rattle.store_folder.specs.Starting.{GoesOn, IsNoneOrNothing, StartFinds, nothing_saved}
use Rattle.store_folder.specs.States.{IsAfter, MayStart, StandsFor, origin_of, started}
use Rattle.store_joiner.specs.Finds.{FindsNow, other_of}
use Rattle.store_folder.specs.Sweeps.{ListsNumber, has_number}
use Rattle.store_joiner.specs.Stores.{Changes, HasBlocks, HasStoreFor, IsSame, LeavesNow}
use Rattle.store_joiner.specs.Stores.{MayChangePlain, NoneOrFinds, NoneOrStands, PlainOrFinds}
use Rattle.store_joiner.specs.Stores.{StandsOrFinds, StaysNow, StaysOrFinds}
use Rattle.store_joiner.specs.declared.error.ChangeFault.TheVariants.{Open}
use Rattle.store_joiner.proofs.Stores.{as_found, has_open}

-- a store was found, before which nothing was changed
pub changes_found : {F : Type 0} (shows : F → List ℕ → Option (List ℕ) → Type 0)
    (kept : F → List ℕ → ℕ → Type 0) (moment : F → ℕ) (left_since : F → ℕ → Left → Type 0)
    (P : Origin → World → World → Type 0) (old mid new : F) (j : FoundJournal) (parts : List BlockPart)
    → Untouched shows kept moment left_since old mid → IsFoundStore shows kept j parts mid
    → StaysOrFinds moment left_since mid new (origin_of j.head parts) j.events.items
    (P (origin_of j.head parts))
    → (MayStand (started j.head parts) → LeavesOnly moment left_since mid new MayStart)
    → Changes shows kept moment left_since P old new
changes_found shows kept moment left_since P old mid new j parts before is after starts = record {
  opened = mid;
  saved = j.head;
  parts = parts;
  events = j.events.items;
  untouched = before;
  store = record { file = is.file; has = is.has; journal = is.journal.is; blocks = is.blocks };
  stays = after;
  starts = starts;
}

-- a journal of events alone

no_parts : {F : Type 0} (shows : F → List ℕ → Option (List ℕ) → Type 0)
    (kept : F → List ℕ → ℕ → Type 0) (parts : List BlockPart) (f : F)
    → AreAt shows kept [] parts f → parts ≡ []
no_parts shows kept [] f at = refl
no_parts shows kept (b ∷ parts) f at = absurd at

pub plain_found : {F : Type 0} (shows : F → List ℕ → Option (List ℕ) → Type 0)
    (kept : F → List ℕ → ℕ → Type 0) (f : F) (s : FoundStore)
    → IsFoundStore shows kept s.journal (map part_in s.blocks.items) f
    → s.journal.head ≡ nothing_saved → IsStoreOf nothing_saved [] s.journal.events.items s
plain_found shows kept f s is head = record {
  head = head;
  events = refl;
  blocks = no_parts shows kept (map part_in s.blocks.items) f
      (subst (λ (x : Saved). AreAt shows kept x.places (map part_in s.blocks.items) f) head
      is.blocks);
}

module _ {F : Type 0} (moment : F → ℕ) (left_since : F → ℕ → Left → Type 0) where
  pub plain_rests : (old new : F) (file : List ℕ) (P : World → World → Type 0)
      → LeavesOnly moment left_since old new (HasEither file)
      → LeavesOnly moment left_since old new (PlainOrFinds file P)
  plain_rests old new file P leaves =
      weaker moment left_since old new (HasEither file) (PlainOrFinds file P) (λ left e. inl e)
      leaves

  pub plain_changed : (old mid new : F) (file : List ℕ) (s : FoundStore)
      (P : Origin → World → World → Type 0) → LeavesOnly moment left_since old mid (HasEither file)
      → StandsAlone file s.journal.events.items
      → IsStoreOf nothing_saved [] s.journal.events.items s
      → StaysOrFinds moment left_since mid new
      (origin_of s.journal.head (map part_in s.blocks.items)) s.journal.events.items
      (P (origin_of s.journal.head (map part_in s.blocks.items)))
      → LeavesOnly moment left_since old new (PlainOrFinds file (P (beginning Whole)))
  plain_changed old mid new file s P before stands is after =
      let events = s.journal.events.items in
      let Q = P (beginning Whole) in
      joined moment left_since old mid new (PlainOrFinds file Q)
      (plain_rests old mid file Q before)
      (weaker moment left_since mid new (StandsOrFinds (beginning Whole) events Q)
      (PlainOrFinds file Q) (λ left x. inr (events, stands, x))
      (as_found (λ (o : Origin) (es : List Event). StaysOrFinds moment left_since mid new o es (P o))
      nothing_saved [] events s is after))

  pub plain_same : (f : F) (file : List ℕ) (s : FoundStore)
      → StandsAlone file s.journal.events.items
      → IsStoreOf nothing_saved [] s.journal.events.items s
      → StaysNow moment left_since f (origin_of s.journal.head (map part_in s.blocks.items))
      s.journal.events.items
      → LeavesNow moment left_since f (PlainOrFinds file IsSame)
  plain_same f file s stands is stays left had =
      inr (
        s.journal.events.items,
        stands,
        as_found (λ (o : Origin) (es : List Event). StaysNow moment left_since f o es)
            nothing_saved [] s.journal.events.items s is stays left had,
      )

  -- a store that is begun

  nothing_stands : (left : Left) → IsNoneOrNothing Whole left → NoneOrStands left
  nothing_stands left x = ⊎_elim (λ none. inl none)
      (λ state. inr (record {
        saved = nothing_saved;
        parts = [];
        early = [];
        late = [];
        all = refl;
        begins = record { world = refl; values = refl };
        state = state;
      })) x

  pub begun_stands : (old new : F) → LeavesOnly moment left_since old new (IsNoneOrNothing Whole)
      → LeavesOnly moment left_since old new NoneOrStands
  begun_stands old new leaves =
      weaker moment left_since old new (IsNoneOrNothing Whole) NoneOrStands nothing_stands leaves

  pub stands_on : (old new : F) → StartFinds moment left_since old new (beginning Whole) []
      → LeavesOnly moment left_since old new NoneOrStands
  stands_on old new leaves =
      weaker moment left_since old new (StandsFor (beginning Whole) []) NoneOrStands
      (λ left s. inr s) leaves

  pub first_rests : (old new : F) (P : World → World → Type 0)
      → LeavesOnly moment left_since old new NoneOrStands
      → LeavesOnly moment left_since old new (NoneOrFinds P)
  first_rests old new P leaves =
      weaker moment left_since old new NoneOrStands (NoneOrFinds P)
      (λ left x. ⊎_elim (λ none. inl none) (λ s. inr (inl s)) x) leaves

  pub first_changed : (old mid new : F) (P : Origin → World → World → Type 0) (first : Origin)
      (events : List Event) → LeavesOnly moment left_since old mid NoneOrStands
      → first ≡ beginning Whole → events ≡ []
      → StaysOrFinds moment left_since mid new first events (P first)
      → LeavesOnly moment left_since old new (NoneOrFinds (P (beginning Whole)))
  first_changed old mid new P first events before is none after =
      let Q = P (beginning Whole) in
      joined moment left_since old mid new (NoneOrFinds Q) (first_rests old mid Q before)
      (weaker moment left_since mid new (StandsOrFinds (beginning Whole) [] Q) (NoneOrFinds Q)
      (λ left x. inr x)
      (subst (λ (o : Origin). StaysOrFinds moment left_since mid new o [] (P o)) is
      (subst (λ (es : List Event). StaysOrFinds moment left_since mid new first es (P first)) none
      after)))

  pub first_same : (f : F) (first : Origin) (events : List Event) → first ≡ beginning Whole
      → events ≡ [] → StaysNow moment left_since f first events
      → LeavesNow moment left_since f (NoneOrFinds IsSame)
  first_same f first events is none stays left had =
      inr (subst (λ (o : Origin). StandsOrFinds o [] IsSame left) is
      (subst (λ (es : List Event). StandsOrFinds first es IsSame left) none (stays left had)))

-- it was not opened: it is refused for what is wrong with it, or the folder failed
pub plain_denied : {F : Type 0} (shows : F → List ℕ → Option (List ℕ) → Type 0)
    (kept : F → List ℕ → ℕ → Type 0) (moment : F → ℕ) (left_since : F → ℕ → Left → Type 0)
    (file : List ℕ) (old new : F) (e : StartError) (Failed : Type 0)
    → ((e ≡ Medium) × Failed) ⊎ DeniesText file e
    → ((e ≡ Medium → ⊥) → Untouched shows kept moment left_since old new)
    → KeepsOthers shows kept next_name journal_name old new
    → MayChangePlain shows kept moment left_since file (Open e) old new
plain_denied shows kept moment left_since file old new e Failed why unless others =
    ⊎_elim (λ failed. inr (inr (ap (λ (x : StartError). Open x) failed.0, others)))
    (λ denies. inl (unless (λ is. subst (λ (x : StartError). DeniesText file x) is denies)))
    why

-- no journal is left where none was, and nothing was changed
pub none_left : {F : Type 0} (shows : F → List ℕ → Option (List ℕ) → Type 0)
    (kept : F → List ℕ → ℕ → Type 0) (moment : F → ℕ) (left_since : F → ℕ → Left → Type 0)
    → ((f : F) (name : List ℕ) (x : Option (List ℕ)) (n : ℕ) (left : Left) → shows f name x
    → kept f name n → left_since f (moment f) left → MayLeaveOf n x (left name))
    → (old new : F) → shows old journal_name None → kept old journal_name 0
    → Untouched shows kept moment left_since old new
    → LeavesOnly moment left_since old new NoneOrStands
none_left shows kept moment left_since only_now old new shown durable u = record {
  later = u.time.later;
  each = λ left had. inl (⊎_elim
      (λ past. only_now old journal_name None 0 left shown durable past)
      (λ may. may.1 journal_name None 0 shown durable)
      (u.time.nothing_else (moment old) left (omega arith) had));
  before = λ t left le had. ⊎_elim (λ past. inl past)
      (λ may. inr (inl (may.1 journal_name None 0 shown durable)))
      (u.time.nothing_else t left le had);
}

-- the world of no events

abbrev fine : World → Result World Refusal
fine w = Ok w

same_world : (v w : World) → fine v ≡ Ok w → v ≡ w
same_world v w e = cc

pub same_first : (first : World) (events : List Event) (w : World) → events ≡ []
    → replayed first events ≡ Ok w → w ≡ first
same_first first events w none made =
    sym (same_world first w
    (subst (λ (es : List Event). replayed first es ≡ Ok w) none made))

abbrev origin_with : World → Values → Origin
origin_with world values = record { world = world; values = values }

-- what is after no events begins where they do
pub origin_again : (first : Origin) (saved : Saved) (parts : List BlockPart)
    → IsAfter first [] saved parts → origin_of saved parts ≡ first
origin_again first saved parts after =
    ap (λ (w : World). origin_with w saved.values)
    (same_first first.world [] (world_of (started saved parts)) refl after.world)
    ∙ ap (λ (v : Values). origin_with first.world v) after.values

-- a store that was begun lies in its folder
pub has_begun : {F : Type 0} (shows : F → List ℕ → Option (List ℕ) → Type 0)
    (kept : F → List ℕ → ℕ → Type 0) (sound : F → Bool) (moment : F → ℕ)
    (left_since : F → ℕ → Left → Type 0)
    (only_now : (f : F) (name : List ℕ) (x : Option (List ℕ)) (n : ℕ) (left : Left) → shows f name x
    → kept f name n → left_since f (moment f) left → MayLeaveOf n x (left name))
    (earlier : (f : F) (t u : ℕ) (left : Left) → t ≤ u → u ≤ moment f → left_since f u left
    → left_since f t left)
    (first : Origin) (m : JournalFile F) (len : ℕ) (closed : Bool) (events : List Event)
    (places : List Place) (blocks : List BlockPart) (s : SnapshotParts) → events ≡ []
    → GoesOn shows kept sound moment left_since first m len closed events places blocks s
    → HasStoreFor shows kept first [] m.folder
has_begun shows kept sound moment left_since only_now earlier first m len closed events places blocks
    s none goes =
    subst (λ (es : List Event). HasStoreFor shows kept first es m.folder) none
    (has_open shows kept sound moment left_since only_now earlier first m len closed events places
    blocks (inl goes.holds) goes.is_open)

-- the first world with blocks beneath it
pub finds_first : {F : Type 0} (moment : F → ℕ) (left_since : F → ℕ → Left → Type 0) (f : F)
    (made : World → World) (found : Origin) (events : List Event) (w : World)
    → found ≡ beginning Whole → events ≡ [] → replayed found.world events ≡ Ok w
    → FindsNow moment left_since f (other_of found (made w))
    → FindsNow moment left_since f (other_of (beginning Whole) (made (beginning Whole).world))
finds_first moment left_since f made found events w is none world finds =
    subst (λ (o : Origin). FindsNow moment left_since f (other_of o (made o.world))) is
    (subst (λ (x : World). FindsNow moment left_since f (other_of found (made x)))
    (same_first found.world events w none world) finds)

-- which has no others
pub counts_first : (found : Origin) (events : List Event) (w : World) (n k : ℕ)
    → found ≡ beginning Whole → events ≡ [] → replayed found.world events ≡ Ok w
    → n ≡ k + w.blocks → n ≡ k
unfolding world_of
counts_first found events w n k is none world count =
    let none : w.blocks ≡ 0 =
    ap (λ (x : World). x.blocks) (same_first found.world events w none world)
    ∙ ap (λ (o : Origin). o.world.blocks) is in
    omega (arith, count, none)

-- a store was not found where no journal is

abbrev none : Option (List ℕ)
none = None

not_some : (file : List ℕ) → none ≡ Some file → ⊥
not_some file e = cc

pub not_none : {F : Type 0} (shows : F → List ℕ → Option (List ℕ) → Type 0)
    (kept : F → List ℕ → ℕ → Type 0) (moment : F → ℕ) (left_since : F → ℕ → Left → Type 0)
    → TellsFiles shows → (old mid : F) (file : List ℕ) → shows old journal_name None
    → Untouched shows kept moment left_since old mid → HasFile shows kept journal_name file mid → ⊥
not_none shows kept moment left_since tells old mid file shown u has =
    not_some file
    (tells mid journal_name None (Some file) (u.all.same journal_name None shown) has.shown)

-- what is said of a store that was found
pub some_of : {A : Type 0} (o : Option A) (s : A) (P : A → Type 0) → o ≡ Some s → IfSome o P → P s
some_of {A} o s P is h = subst (λ (x : Option A). IfSome x P) is h

-- blocks are not told of as none

not_both : (b : Bool) → b ≡ true → b ≡ false → ⊥
not_both true t f = absurd cc
not_both false t f = absurd cc

pub blocks_told : {F : Type 0} (shows : F → List ℕ → Option (List ℕ) → Type 0)
    (lists : F → List ℕ → List (List ℕ) → Type 0) (kept : F → List ℕ → ℕ → Type 0)
    (moment : F → ℕ) (left_since : F → ℕ → Left → Type 0) (old mid : F)
    → HasBlocks shows lists kept moment left_since old
    → Untouched shows kept moment left_since old mid → ListsNumber lists mid false → ⊥
blocks_told shows lists kept moment left_since old mid has u told =
    not_both (has_number told.0) (has mid told.0 u told.1) (sym told.2)
