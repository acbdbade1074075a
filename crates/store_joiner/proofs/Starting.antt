-- That a start takes what is left of a store, while the store is changed.
use Rattle.std.proofs.Common.{⊎_elim, inl, inr, ℕ, ◌≤◌, Bool, List, [], Option, None, Result, Ok}
use Rattle.std.proofs.Common.{Err, arith}
use Rattle.std.specs.Prelude.{MatchResult}
use Rattle.block_folder.specs.declared.values.Values.{Values}
use Rattle.block_folder.specs.declared.values.Values.TheVariants.{Whole}
use Rattle.data_folder.specs.Folders.{Left, LeavesOnly, MayLeaveOf, Untouched}
use Rattle.data_folder.specs.JournalFile.{journal_name}
use Rattle.data_folder.proofs.Moments.{joined, weaker}
use Rattle.head.specs.Heads.{BlockPart, SnapshotParts}
use Rattle.head.specs.Resuming.{MayStand}
use Rattle.head.specs.Worlds.{Event}
use Rattle.head_record.specs.Saved.{Saved}
use Rattle.store_folder.specs.declared.journals.FoundJournal.{FoundJournal}
use Rattle.store_folder.specs.Finding.{IsFoundStore}
use Rattle.store_folder.specs.Plain.{HasEither}
use Rattle.store_folder.specs.Saving.{IsOldOrSaved}
use Rattle.store_folder.specs.Starting.{IsNoneOrNothing}
use Rattle.store_folder.specs.States.{IsEither, IsState, MayStart, started}
use Rattle.store_folder.specs.StoreLaws.{may_start}
use Rattle.store_folder.proofs.Standing.{nothing_starts}
use Rattle.store_folder.proofs.Starts.{state_stays}
use Rattle.store_joiner.specs.Stores.{HasStore, PlainOrStarts}
use Rattle.store_joiner.proofs.Stores.{match_so, untouched_leaves}

module _ {F : Type 0} (moment : F → ℕ) (left_since : F → ℕ → Left → Type 0) where
  abbrev Starts : F → F → Type 0
  Starts old new = LeavesOnly moment left_since old new MayStart

  -- what is left is one store
  pub starts_of : (saved : Saved) (parts : List BlockPart) (events : List Event) (old new : F)
      → LeavesOnly moment left_since old new (IsState saved parts events)
      → MayStand (started saved parts) → Starts old new
  starts_of saved parts events old new leaves may =
      weaker moment left_since old new (IsState saved parts events) MayStart
      (λ left state. may_start saved parts events left state may) leaves

  -- or one of two
  pub either_starts : (saved : Saved) (parts : List BlockPart) (events : List Event) (next : Saved)
      (blocks : List BlockPart) (old new : F)
      → LeavesOnly moment left_since old new (IsEither saved parts events next blocks)
      → MayStand (started saved parts) → MayStand (started next blocks) → Starts old new
  either_starts saved parts events next blocks old new leaves may then =
      weaker moment left_since old new (IsEither saved parts events next blocks) MayStart
      (λ left x. ⊎_elim (λ state. may_start saved parts events left state may)
      (λ state. may_start next blocks [] left state then) x) leaves

  -- or what is saved of a snapshot
  pub saved_starts : (saved : Saved) (parts : List BlockPart) (events : List Event)
      (values : Values) (s : SnapshotParts) (old new : F)
      → LeavesOnly moment left_since old new (IsOldOrSaved saved parts events values s)
      → MayStand (started saved parts) → Starts old new
  saved_starts saved parts events values s old new leaves may =
      weaker moment left_since old new (IsOldOrSaved saved parts events values s) MayStart
      (λ left x. ⊎_elim (λ state. may_start saved parts events left state may)
      (λ made. may_start _ made.1 [] left made.3 made.4) x) leaves

  pub starts_on : (old mid new : F) → Starts old mid → Starts mid new → Starts old new
  starts_on old mid new one two = joined moment left_since old mid new MayStart one two

  -- whatever the answer is
  pub each_starts : {A E : Type 0} (r : Result A E) (of : A → F) (kept : E → F) (old mid : F)
      → Starts old mid → MatchResult r (λ x. Starts mid (of x)) (λ e. Starts mid (kept e))
      → MatchResult r (λ x. Starts old (of x)) (λ e. Starts old (kept e))
  each_starts r of kept old mid one two =
      match_so r _ _ _ _ (λ x. starts_on old mid (of x) one)
      (λ e. starts_on old mid (kept e) one) two

  -- and also what else is so of it
  pub so_and_starts : {A E : Type 0} (r : Result A E) (may : Type 0) (of : A → F) (kept : E → F)
      (mid : F) (P Q : A → Type 0) (R S : E → Type 0)
      → ((x : A) → P x → (may → Starts mid (of x)) → Q x)
      → ((e : E) → R e → (may → Starts mid (kept e)) → S e) → MatchResult r P R
      → (may → MatchResult r (λ x. Starts mid (of x)) (λ e. Starts mid (kept e)))
      → MatchResult r Q S
  so_and_starts (Ok x) may of kept mid P Q R S f g p starts = f x p starts
  so_and_starts (Err e) may of kept mid P Q R S f g p starts = g e p starts

  -- a store that is begun
  pub begun_starts : (old new : F) (values : Values)
      → LeavesOnly moment left_since old new (IsNoneOrNothing values) → Starts old new
  begun_starts old new values leaves =
      weaker moment left_since old new (IsNoneOrNothing values) MayStart (nothing_starts values)
      leaves

  -- a journal of events alone
  pub plain_waits : (old new : F) (file : List ℕ)
      → LeavesOnly moment left_since old new (HasEither file)
      → LeavesOnly moment left_since old new (PlainOrStarts file)
  plain_waits old new file leaves =
      weaker moment left_since old new (HasEither file) (PlainOrStarts file) (λ left e. inl e) leaves

  pub plain_starts : (old mid new : F) (file : List ℕ)
      → LeavesOnly moment left_since old mid (HasEither file) → Starts mid new
      → LeavesOnly moment left_since old new (PlainOrStarts file)
  plain_starts old mid new file before starts =
      joined moment left_since old mid new (PlainOrStarts file) (plain_waits old mid file before)
      (weaker moment left_since mid new MayStart (PlainOrStarts file) (λ left x. inr x) starts)

-- where no journal is, and nothing was changed
pub none_starts : {F : Type 0} (shows : F → List ℕ → Option (List ℕ) → Type 0)
    (kept : F → List ℕ → ℕ → Type 0) (moment : F → ℕ) (left_since : F → ℕ → Left → Type 0)
    → ((f : F) (name : List ℕ) (x : Option (List ℕ)) (n : ℕ) (left : Left) → shows f name x
    → kept f name n → left_since f (moment f) left → MayLeaveOf n x (left name))
    → (old new : F) → shows old journal_name None → kept old journal_name 0
    → Untouched shows kept moment left_since old new → LeavesOnly moment left_since old new MayStart
none_starts shows kept moment left_since only_now old new shown durable u =
    begun_starts moment left_since old new Whole (record {
      later = u.time.later;
      each = λ left had. inl (⊎_elim
          (λ past. only_now old journal_name None 0 left shown durable past)
          (λ may. may.1 journal_name None 0 shown durable)
          (u.time.nothing_else (moment old) left (omega arith) had));
      before = λ t left le had. ⊎_elim (λ past. inl past)
          (λ may. inr (inl (may.1 journal_name None 0 shown durable)))
          (u.time.nothing_else t left le had);
    })

module _ {F : Type 0} (shows : F → List ℕ → Option (List ℕ) → Type 0)
    (kept : F → List ℕ → ℕ → Type 0) (sound : F → Bool) (moment : F → ℕ)
    (left_since : F → ℕ → Left → Type 0)
    (only_now : (f : F) (name : List ℕ) (x : Option (List ℕ)) (n : ℕ) (left : Left) → shows f name x
    → kept f name n → left_since f (moment f) left → MayLeaveOf n x (left name))
    (earlier : (f : F) (t u : ℕ) (left : Left) → t ≤ u → u ≤ moment f → left_since f u left
    → left_since f t left) where
  pub untouched_starts : (saved : Saved) (parts : List BlockPart) (events : List Event) (old new : F)
      → HasStore shows kept saved parts events old → MayStand (started saved parts)
      → Untouched shows kept moment left_since old new
      → LeavesOnly moment left_since old new MayStart
  untouched_starts saved parts events old new h may u =
      starts_of moment left_since saved parts events old new
      (untouched_leaves shows kept sound moment left_since only_now earlier saved parts events old new
      h u) may

  -- where nothing was done
  pub found_starts : (f : F) (j : FoundJournal) (parts : List BlockPart)
      → IsFoundStore shows kept j parts f → MayStand (started j.head parts)
      → LeavesOnly moment left_since f f MayStart
  found_starts f j parts is may =
      starts_of moment left_since j.head parts j.events.items f f
      (state_stays shows kept sound moment left_since only_now f j parts is) may
