-- A store that lies in a folder, while it is opened, saved and changed.
use Rattle.std.proofs.Common.{◌≡◌, ◌⊎◌, inl, inr, ⊎_elim, ℕ, ◌≤◌, Bool, false, List, [], ◌∷◌}
use Rattle.std.proofs.Common.{◌++◌, Option, Some, Result, Ok, Err, IfOk, IfErr, refl, sym, ap}
use Rattle.std.proofs.Common.{append-nil, arith, length, map, subst, ◌∙◌}
use Rattle.std.specs.Prelude.{MatchResult, OnOk}
use Rattle.std.proofs.lemmas.List.{length-map}
use Rattle.block.specs.Blocks.{Shown}
use Rattle.block_folder.specs.declared.values.Values.{Values}
use Rattle.data_folder.specs.declared.journal_file.JournalFile.{JournalFile}
use Rattle.data_folder.specs.Folders.{Left, LeavesAll, LeavesOnly, MayLeaveOf, Untouched}
use Rattle.data_folder.specs.JournalFile.{journal_name}
use Rattle.data_folder.proofs.Moments.{joined, weaker}
use Rattle.head.specs.Blocks.{part_in}
use Rattle.head.specs.Heads.{BlockPart, world_of}
use Rattle.head.specs.Refusals.{Refusal}
use Rattle.head.specs.Worlds.{Event, World, replayed}
use Rattle.head_record.specs.Saved.{Place, Saved}
use Rattle.head_record.specs.Spelling.{head_texts}
use Rattle.journal.specs.Records.{file_of}
use Rattle.journal.proofs.Keeping.{itself}
use Rattle.store_folder.specs.declared.reading.FoundStore.{FoundStore}
use Rattle.store_folder.specs.Faults.{IsStoreOf}
use Rattle.store_folder.specs.Holding.{HoldsAfterHead, HoldsOrLost, HoldsThese}
use Rattle.store_folder.specs.KeeperLaws.{as_store, open_head, state_stands}
use Rattle.store_folder.specs.Origins.{Origin}
use Rattle.store_folder.specs.Starting.{StartFinds}
use Rattle.store_folder.specs.States.{IsAfter, IsState, StandsFor, origin_of, started}
use Rattle.store_folder.specs.StoreLaws.{blocks_left, later, one_meaning, whole_left}
use Rattle.store_folder.proofs.Rolls.{of_these}
use Rattle.store_joiner.specs.Finds.{Finds, FindsEither, FindsNow, other_of}
use Rattle.store_joiner.specs.Joins.{with_blocks}
use Rattle.store_joiner.specs.Stores.{HasStore, HasStoreFor, StandsOrFinds, StaysNow}

-- answers

pub if_ok : {A E : Type 0} (r : Result A E) (P Q : A → Type 0) → ((x : A) → P x → Q x)
    → IfOk r P → IfOk r Q
if_ok (Ok x) P Q f p = f x p
if_ok (Err e) P Q f p = tt

pub if_both : {A E : Type 0} (r : Result A E) (P Q R : A → Type 0)
    → ((x : A) → P x → Q x → R x) → IfOk r P → IfOk r Q → IfOk r R
if_both (Ok x) P Q R f p q = f x p q
if_both (Err e) P Q R f p q = tt

pub of_ok : {A E : Type 0} (r : Result A E) (P : Type 0) → OnOk r P → IfOk r (λ (x : A). P)
of_ok (Ok x) P p = p
of_ok (Err e) P p = tt

pub if_err : {A E : Type 0} (r : Result A E) (P Q : E → Type 0) → ((e : E) → P e → Q e)
    → IfErr r P → IfErr r Q
if_err (Ok x) P Q f p = tt
if_err (Err e) P Q f p = f e p

pub match_so : {A E : Type 0} (r : Result A E) (P Q : A → Type 0) (R S : E → Type 0)
    → ((x : A) → P x → Q x) → ((e : E) → R e → S e) → MatchResult r P R → MatchResult r Q S
match_so (Ok x) P Q R S f g p = f x p
match_so (Err e) P Q R S f g p = g e p

-- no events make the first world
pub nothing_made : (first : World) (events : List Event) → events ≡ []
    → replayed first events ≡ Ok first
nothing_made first events none = ap (λ (es : List Event). replayed first es) none

no_late : (early late : List Event) → [] ≡ early ++ late → late ≡ []
no_late [] late all = sym all
no_late (e ∷ early) late all = absurd (let w : [] ≡ e ∷ (early ++ late) = all in cc)

-- what stands for no events has none, and a start finds the first world in it
pub finds_in : (first : Origin) (P : World → Type 0) (left : Left) → P first.world
    → StandsFor first [] left → Finds first.values P left
finds_in first P left here s = (
  λ fits. (
    first.world,
    (
      fits,
      (
        s.saved,
        s.parts,
        subst (λ (es : List Event). IsState s.saved s.parts es left)
            (no_late s.early s.late s.all) s.state,
        subst (λ (es : List Event). replayed (world_of (started s.saved s.parts)) es ≡ Ok first.world)
            (no_late s.early s.late s.all)
            (later first.world s.early s.late (world_of (started s.saved s.parts)) first.world
            s.begins.world (ap (λ (es : List Event). replayed first.world es) (sym s.all))),
      ),
    ),
    here,
  ),
  one_meaning first [] left s,
)

finds_none : (first : Origin) (events : List Event) (P : World → Type 0) (left : Left)
    → events ≡ [] → P first.world → StandsFor first events left → Finds first.values P left
finds_none first events P left none here s =
    finds_in first P left here
    (subst (λ (es : List Event). StandsFor first es left) none s)

-- what lies in a folder stands for its events

pub has_for : {F : Type 0} (shows : F → List ℕ → Option (List ℕ) → Type 0)
    (kept : F → List ℕ → ℕ → Type 0) (saved : Saved) (parts : List BlockPart)
    (events : List Event) (f : F) → HasStore shows kept saved parts events f
    → HasStoreFor shows kept (origin_of saved parts) events f
has_for shows kept saved parts events f h = record {
  saved = saved;
  parts = parts;
  early = [];
  late = events;
  all = refl;
  begins = record { world = refl; values = refl };
  store = h;
}

module _ {F : Type 0} (shows : F → List ℕ → Option (List ℕ) → Type 0)
    (kept : F → List ℕ → ℕ → Type 0) (sound : F → Bool) (moment : F → ℕ)
    (left_since : F → ℕ → Left → Type 0)
    (only_now : (f : F) (name : List ℕ) (x : Option (List ℕ)) (n : ℕ) (left : Left) → shows f name x
    → kept f name n → left_since f (moment f) left → MayLeaveOf n x (left name))
    (earlier : (f : F) (t u : ℕ) (left : Left) → t ≤ u → u ≤ moment f → left_since f u left
    → left_since f t left) where
  -- a crash leaves it, and so what stands for its events

  state_left : (saved : Saved) (parts : List BlockPart) (events : List Event) (f : F) (left : Left)
      → HasStore shows kept saved parts events f → LeavesAll shows kept f left
      → IsState saved parts events left
  state_left saved parts events f left h may = record {
    head = h.journal.head;
    kept = record {
      contents = h.journal.stands.contents;
      names = h.journal.stands.names;
      spell = h.journal.stands.spell;
      journal = (
        h.file,
        whole_left h.file (left journal_name)
            (may journal_name (Some h.file) (length h.file) h.has.shown h.has.durable),
        h.journal.stands.recovers,
      );
    };
    blocks = blocks_left shows kept saved.places parts f left h.blocks
        (λ n x k away shown durable. may n x k shown durable);
  }

  pub untouched_leaves : (saved : Saved) (parts : List BlockPart) (events : List Event) (old new : F)
      → HasStore shows kept saved parts events old → Untouched shows kept moment left_since old new
      → LeavesOnly moment left_since old new (IsState saved parts events)
  untouched_leaves saved parts events old new h u = record {
    later = u.time.later;
    each = λ left had. ⊎_elim
        (λ past. state_left saved parts events old left h
        (λ name x n shown durable. only_now old name x n left shown durable past))
        (λ may. state_left saved parts events old left h may.1)
        (u.time.nothing_else (moment old) left (omega arith) had);
    before = λ t left le had. ⊎_elim (λ past. inl past)
        (λ may. inr (state_left saved parts events old left h may.1))
        (u.time.nothing_else t left le had);
  }

  pub untouched_finds : (first : Origin) (events : List Event) (old new : F)
      → HasStoreFor shows kept first events old → Untouched shows kept moment left_since old new
      → StartFinds moment left_since old new first events
  untouched_finds first events old new h u =
      weaker moment left_since old new (IsState h.saved h.parts h.late) (StandsFor first events)
      (λ left s. state_stands first events h.early h.late h.saved h.parts left h.all h.begins s)
      (untouched_leaves h.saved h.parts h.late old new h.store u)

  -- what may be left now might have been left since
  pub now_in : (old new : F) (P : Left → Type 0) → LeavesOnly moment left_since old new P
      → (left : Left) → left_since new (moment new) left → P left
  now_in old new P leaves left had =
      leaves.each left (earlier new (moment old) (moment new) left leaves.later (omega arith) had)

  -- and then a start finds the first world, if there are no events
  pub now_first : (old new : F) (first : Origin) (events : List Event) → events ≡ []
      → StartFinds moment left_since old new first events → FindsNow moment left_since new first
  now_first old new first events none leaves left had =
      finds_none first events (λ (v : World). v ≡ first.world) left none refl
      (now_in old new (StandsFor first events) leaves left had)

  pub stays_now : (old new : F) (first : Origin) (events : List Event)
      → StartFinds moment left_since old new first events
      → StaysNow moment left_since new first events
  stays_now old new first events leaves left had =
      inl (now_in old new (StandsFor first events) leaves left had)

  pub finds_then : (f : F) (first : Origin) (saved : Saved) (parts : List BlockPart)
      (events : List Event) → IsAfter first events saved parts
      → FindsNow moment left_since f (origin_of saved parts)
      → StaysNow moment left_since f first events
  finds_then f first saved parts events after finds left had =
      let w = world_of (started saved parts) in
      inr (
        w,
        after.world,
        subst (λ (values : Values). Finds values (λ (v : World). v ≡ w) left) after.values
            (finds left had),
      )

  -- the folder of an open journal has the store of its head and events
  open_store : (first : Origin) (m : JournalFile F) (len : ℕ) (closed : Bool)
      (events : List Event)
      (h : HoldsAfterHead shows kept sound moment left_since first m len closed events)
      → closed ≡ false → HasStore shows kept h.saved h.parts h.late m.folder
  open_store first m len closed events h opened =
      let contents = head_texts h.saved ++ h.journal.contents in
      let k = h.journal.keeps opened in record {
        file = file_of contents;
        has = record { shown = k.has.all; durable = k.has.durable };
        journal = record {
          head = h.head;
          stands = record {
            before = h.journal.before;
            contents = h.journal.contents;
            names = h.journal.after;
            spell = h.journal.spell;
            recovers = itself contents k.each;
          };
        };
        blocks = h.blocks;
      }

  pub has_these : (first : Origin) (m : JournalFile F) (len : ℕ) (closed : Bool)
      (events : List Event) (saved : Saved) (parts : List BlockPart) (late : List Event)
      (t : HoldsThese shows kept sound moment left_since first m len closed events saved parts late)
      → closed ≡ false → HasStore shows kept saved parts late m.folder
  has_these first m len closed events saved parts late t opened =
      of_these shows kept sound moment left_since
      (λ (x : Saved) (bs : List BlockPart) (es : List Event). HasStore shows kept x bs es m.folder)
      first m len closed events saved parts late t
      (open_store first m len closed events t.0 opened)

  pub has_kept : (first : Origin) (m : JournalFile F) (len : ℕ) (closed : Bool)
      (events : List Event) → HoldsAfterHead shows kept sound moment left_since first m len closed
      events → closed ≡ false → HasStoreFor shows kept first events m.folder
  has_kept first m len closed events h opened = record {
    saved = h.saved;
    parts = h.parts;
    early = h.early;
    late = h.late;
    all = h.all;
    begins = h.begins;
    store = open_store first m len closed events h opened;
  }

  -- so has what is open
  pub has_open : (first : Origin) (m : JournalFile F) (len : ℕ) (closed : Bool)
      (events : List Event) (places : List Place) (blocks : List BlockPart)
      → HoldsOrLost shows kept sound moment left_since first m len closed events places blocks
      → closed ≡ false → HasStoreFor shows kept first events m.folder
  has_open first m len closed events places blocks held opened =
      has_kept first m len closed events
      (open_head shows kept sound moment left_since only_now first m len closed events
      (as_store shows kept sound moment left_since only_now first m len closed events places blocks
      held) opened) opened

-- the world that is read again

abbrev fine : World → Result World Refusal
fine w = Ok w

pub world_again : {F : Type 0} (shows : F → List ℕ → Option (List ℕ) → Type 0)
    (kept : F → List ℕ → ℕ → Type 0) (first : Origin) (events : List Event) (f : F)
    (s : FoundStore) (h : HasStoreFor shows kept first events f)
    → IsStoreOf h.saved h.parts h.late s → s.journal.events.items ≡ []
    → IsAfter first events s.journal.head (map part_in s.blocks.items)
world_again shows kept first events f s h is none =
    let late : h.late ≡ [] = sym is.events ∙ none in
    let all : events ≡ h.early =
    h.all ∙ (ap (λ (es : List Event). h.early ++ es) late ∙ append-nil h.early) in record {
      world =
          ap (λ (es : List Event). replayed first.world es) all
          ∙ (h.begins.world
          ∙ (ap (λ (x : Saved). fine (world_of (started x h.parts))) (sym is.head)
          ∙ ap (λ (bs : List BlockPart). fine (world_of (started s.journal.head bs)))
          (sym is.blocks)));
      values = ap (λ (x : Saved). x.values) is.head ∙ h.begins.values;
    }

-- what a crash leaves of the events, and then of their world

module _ {F : Type 0} (moment : F → ℕ) (left_since : F → ℕ → Left → Type 0) where
  pub stays : (old new : F) (first : Origin) (events : List Event) (P : World → World → Type 0)
      → StartFinds moment left_since old new first events
      → LeavesOnly moment left_since old new (StandsOrFinds first events P)
  stays old new first events P leaves =
      weaker moment left_since old new (StandsFor first events) (StandsOrFinds first events P)
      (λ left s. inl s) leaves

  pub then_finds : (old mid new : F) (first : Origin) (saved : Saved) (parts : List BlockPart)
      (events : List Event) (P : World → World → Type 0)
      → StartFinds moment left_since old mid first events → IsAfter first events saved parts
      → LeavesOnly moment left_since mid new
      (Finds saved.values (P (world_of (started saved parts))))
      → LeavesOnly moment left_since old new (StandsOrFinds first events P)
  then_finds old mid new first saved parts events P before since after =
      let w = world_of (started saved parts) in
      joined moment left_since old mid new (StandsOrFinds first events P)
      (stays old mid first events P before)
      (weaker moment left_since mid new (Finds saved.values (P w)) (StandsOrFinds first events P)
      (λ left found. inr (
        w,
        since.world,
        subst (λ (values : Values). Finds values (P w) left) since.values found,
      )) after)

  pub then_stays : (old mid new : F) (first : Origin) (events : List Event)
      (P : World → World → Type 0) → StartFinds moment left_since old mid first events
      → LeavesOnly moment left_since mid new (StandsOrFinds first events P)
      → LeavesOnly moment left_since old new (StandsOrFinds first events P)
  then_stays old mid new first events P before after =
      joined moment left_since old mid new (StandsOrFinds first events P)
      (stays old mid first events P before) after

  -- of no events a start finds the first world
  pub finds_all : (old new : F) (first : Origin) (events : List Event) (P : World → Type 0)
      → events ≡ [] → P first.world → StartFinds moment left_since old new first events
      → LeavesOnly moment left_since old new (Finds first.values P)
  finds_all old new first events P none here leaves =
      weaker moment left_since old new (StandsFor first events) (Finds first.values P)
      (λ left s. finds_none first events P left none here s) leaves

  -- where one of two worlds is found
  pub either_so : (old new : F) (first : Origin) (next : World) (P : World → Type 0)
      → P first.world → P next → FindsEither moment left_since old new first next
      → LeavesOnly moment left_since old new (Finds first.values P)
  either_so old new first next P one two leaves =
      weaker moment left_since old new
      (Finds first.values (λ (v : World). (v ≡ first.world) ⊎ (v ≡ next)))
      (Finds first.values P)
      (λ left found. (
        λ fits. let x = found.0 fits in
            (x.0, x.1, ⊎_elim (λ e. subst P (sym e) one) (λ e. subst P (sym e) two) x.2),
        found.1,
      )) leaves

  -- another store in the place of one without events
  pub replaced : (old mid new : F) (first : Origin) (next : World) (events : List Event)
      → events ≡ []
      → StartFinds moment left_since old mid first events
      → FindsEither moment left_since mid new first next
      → FindsEither moment left_since old new first next
  replaced old mid new first next events none before after =
      let P = λ (v : World). (v ≡ first.world) ⊎ (v ≡ next) in
      joined moment left_since old mid new (Finds first.values P)
      (finds_all old mid first events P none (inl refl) before) after

-- what is found is the store that lies there
pub as_found : (P : Origin → List Event → Type 0) (saved : Saved) (parts : List BlockPart)
    (events : List Event) (s : FoundStore) → IsStoreOf saved parts events s
    → P (origin_of s.journal.head (map part_in s.blocks.items)) s.journal.events.items
    → P (origin_of saved parts) events
as_found P saved parts events s is p =
    subst (λ (es : List Event). P (origin_of saved parts) es) is.events
    (subst (λ (bs : List BlockPart). P (origin_of saved bs) s.journal.events.items) is.blocks
    (subst (λ (x : Saved). P (origin_of x (map part_in s.blocks.items))
    s.journal.events.items) is.head p))

-- the blocks of a world

pub found_blocks : (first : Origin) (saved : Saved) (blocks : List Shown)
    → first ≡ origin_of saved (map part_in blocks) → length blocks ≡ first.world.blocks
unfolding world_of
found_blocks first saved blocks begins =
    sym (ap (λ (o : Origin). o.world.blocks) begins ∙ length-map blocks (λ (b : Shown). part_in b))

pub joined_to : (first w v : World) (n : ℕ) → first ≡ w → v ≡ with_blocks n w
    → v ≡ with_blocks v.blocks first
joined_to first w v n begins is =
    is
    ∙ (ap (λ (k : ℕ). with_blocks k w) (sym (ap (λ (x : World). x.blocks) is))
    ∙ ap (λ (x : World). with_blocks v.blocks x) (sym begins))

-- a start finds an equal world
pub found_as : {F : Type 0} (moment : F → ℕ) (left_since : F → ℕ → Left → Type 0) (f : F)
    (first : Origin) (w : World) → first.world ≡ w → FindsNow moment left_since f first
    → FindsNow moment left_since f (other_of first w)
found_as moment left_since f first w is finds =
    subst (λ (x : World). FindsNow moment left_since f (other_of first x)) is finds

-- whose values mean the same
pub means_so : {F : Type 0} (moment : F → ℕ) (left_since : F → ℕ → Left → Type 0) (f : F)
    (w : World) (was now : Values) → now ≡ was
    → FindsNow moment left_since f (record { world = w; values = now })
    → FindsNow moment left_since f (record { world = w; values = was })
means_so moment left_since f w was now is finds =
    subst (λ (x : Values). FindsNow moment left_since f (record { world = w; values = x })) is
    finds

pub as_many : (first : World) (n : ℕ) → n ≡ first.blocks → first ≡ with_blocks n first
as_many first n is = ap (λ (k : ℕ). with_blocks k first) (sym is)
