-- A store that is begun in a folder without a journal.
use Rattle.std.proofs.Common.{◌≡◌, ◌⊎◌, inl, inr, ⊎_elim, ℕ, ◌≤◌, Bool, true, false, List, []}
use Rattle.std.proofs.Common.{◌∷◌, Option, None, Some, Ok, length, map, refl, sym, ap, ◌∙◌}
use Rattle.std.proofs.lemmas.List.{length-map}
use Rattle.std.specs.List.{AllByRecursion}
use Rattle.block_folder.specs.declared.values.Values.{Values}
use Rattle.data_folder.specs.Folders.{Elapses, HasFile, IsOneOf, KeepsAll, KeepsOthers, Left}
use Rattle.data_folder.specs.Folders.{LeavesAll, LeavesOnly, LeavesOthers, MayLeaveOf, Untouched}
use Rattle.data_folder.specs.JournalFile.{journal_name, next_name}
use Rattle.data_folder.specs.Rolls as rolls
use Rattle.data_folder.specs.States.{AreThere, HasFiles, IsApart, Named}
use Rattle.data_folder.specs.Sweeping.{KeepsStore}
use Rattle.data_folder.proofs.Foreign.{foreign_beside, foreign_kept, foreign_then}
use Rattle.data_folder.proofs.Moments.{goes_on, joined, started, untouched_on, weaker}
use Rattle.data_folder.proofs.Rolls.{differ, journal_whole, still_there, whole_left}
use Rattle.data_folder.proofs.Sweeps.{none_changed}
use Rattle.event_journal.specs.Holding.{contents_with}
use Rattle.block.specs.Blocks.{Shown}
use Rattle.head.specs.Blocks.{part_in}
use Rattle.head.specs.Heads.{BlockPart, SnapshotParts, world_of}
use Rattle.head.specs.Resuming.{MayStand}
use Rattle.head.specs.Worlds.{Event, World}
use Rattle.head_record.specs.Saved.{Place, Saved, save}
use Rattle.head_record.specs.Spelling.{head_texts, IsSaved}
use Rattle.journal.specs.Group.{IsJournalText}
use Rattle.store_folder.specs.Holding.{AreAt}
use Rattle.store_folder.specs.KeeperLaws.{state_stands}
use Rattle.store_folder.specs.Origins.{Origin}
use Rattle.store_folder.specs.States.{IsState, started as started_with}
use Rattle.store_folder.specs.StoreLaws.{may_start}
use Rattle.store_folder.specs.Writing.{AreRewritten}
use Rattle.store_folder.proofs.Rolls.{apart_both, files_at, lie_at, there_at}
use Rattle.store_joiner.specs.Finds.{FindsNow}
use Rattle.store_joiner.proofs.Joins.{IsNext, begun_anew, next_head, now_at}
use Rattle.store_joiner.proofs.Stores.{finds_in}
use Rattle.store_backup.specs.declared.copying.Copied.{Copied}
use Rattle.store_backup.specs.Copies.{Begins, IsCopied, MayBegin, NoneOrCopy, NoneOrWhole}
use Rattle.store_backup.specs.Copies.{copy_of}

module _ {F : Type 0} (shows : F → List ℕ → Option (List ℕ) → Type 0)
    (kept : F → List ℕ → ℕ → Type 0) (sound : F → Bool) (moment : F → ℕ)
    (left_since : F → ℕ → Left → Type 0)
    (only_now : (f : F) (name : List ℕ) (x : Option (List ℕ)) (n : ℕ) (left : Left) → shows f name x
    → kept f name n → left_since f (moment f) left → MayLeaveOf n x (left name)) where
  -- the journal is written, and takes its name

  none_yet : (f : F) (P : Left → Type 0) → shows f journal_name None → kept f journal_name 0
      → LeavesOnly moment left_since f f (λ (left : Left). (left journal_name ≡ None) ⊎ P left)
  none_yet f P none durable =
      started moment left_since f (λ (left : Left). (left journal_name ≡ None) ⊎ P left)
      (λ left had. inl (only_now f journal_name None 0 left none durable had))

  pub written_whole : (old mid : F) (files : List Named) (new : List (List ℕ)) (P : Left → Type 0)
      → Elapses (moment old) (moment mid) (left_since old) (left_since mid)
      (LeavesOthers shows kept next_name next_name old P)
      → shows old journal_name None → kept old journal_name 0
      → LeavesOnly moment left_since old mid (NoneOrWhole files new)
  written_whole old mid files new P time none durable =
      goes_on moment left_since old old mid (NoneOrWhole files new)
      (LeavesOthers shows kept next_name next_name old P)
      (none_yet old _ none durable) time
      (λ left l. inl (l.others journal_name None 0 differ differ none durable))

  files_beside : (old : F) (P : Left → Type 0) (left : Left) (files : List Named)
      → LeavesOthers shows kept next_name journal_name old P left → AllByRecursion IsApart files
      → AreThere shows kept files old → HasFiles files left
  files_beside old P left [] l apart there = tt
  files_beside old P left (file ∷ files) l apart there = (
    whole_left file.1 (left file.0)
        (l.others file.0 (Some file.1) (length file.1) apart.0.1 apart.0.0 there.0.shown
        there.0.durable),
    files_beside old P left files l apart.1 there.1,
  )

  pub begun_whole : (old mid after : F) (files : List Named) (new : List (List ℕ)) (text : List ℕ)
      (P : Left → Type 0)
      → Elapses (moment old) (moment mid) (left_since old) (left_since mid)
      (LeavesOthers shows kept next_name next_name old P)
      → KeepsOthers shows kept next_name next_name old mid
      → HasFile shows kept next_name text mid
      → Elapses (moment mid) (moment after) (left_since mid) (left_since after)
      (LeavesOthers shows kept next_name journal_name mid
      (IsOneOf shows kept mid next_name journal_name))
      → shows old journal_name None → kept old journal_name 0
      → IsJournalText new text → AllByRecursion IsApart files → AreThere shows kept files old
      → LeavesOnly moment left_since old after (NoneOrWhole files new)
  begun_whole old mid after files new text P first others next second none durable t apart there =
      goes_on moment left_since old mid after (NoneOrWhole files new)
      (LeavesOthers shows kept next_name journal_name mid
      (IsOneOf shows kept mid next_name journal_name))
      (written_whole old mid files new P first none durable) second
      (λ left l. ⊎_elim (λ nothing. inl nothing)
      (λ is. inr (record {
        files = files_beside mid (IsOneOf shows kept mid next_name journal_name) left files l apart
            (still_there shows kept sound next_name next_name old mid files
            (λ file away. (away.1, away.1)) others apart there);
        journal = journal_whole new left t.each (is ∙ ap (λ (x : List ℕ). Some x) t.whole);
      }))
      (l.own None 0 text (others.same journal_name None differ differ none)
      (others.durable journal_name 0 differ differ durable) next))

  pub stay_beside : (old mid new : F) → KeepsOthers shows kept next_name next_name old mid
      → KeepsOthers shows kept next_name journal_name mid new → (files : List Named)
      → AllByRecursion IsApart files → AreThere shows kept files old
      → AreThere shows kept files new
  stay_beside old mid new first second files apart there =
      still_there shows kept sound next_name journal_name mid new files
      (λ file away. (away.1, away.0)) second apart
      (still_there shows kept sound next_name next_name old mid files
      (λ file away. (away.1, away.1)) first apart there)

  abbrev Begun : Origin → F → F → Type 0
  Begun first old new = Begins shows kept moment left_since first old new

  -- files were written, and the journal was not begun

  still_none : (first : Origin) (old new : F)
      → KeepsStore shows kept sound moment left_since [] old new
      → shows old journal_name None → kept old journal_name 0
      → LeavesOnly moment left_since old new (NoneOrCopy first)
  still_none first old new stays none durable =
      weaker moment left_since old new (λ (left : Left). left journal_name ≡ None)
      (NoneOrCopy first) (λ left nothing. inl nothing)
      (stays.absent journal_name refl none durable)

  pub only_written : (first : Origin) (old new : F)
      → KeepsStore shows kept sound moment left_since [] old new → Begun first old new
  only_written first old new stays = record {
    any_moment = λ none durable. still_none first old new stays none durable;
    foreign = foreign_kept shows kept sound moment left_since [] old new stays;
  }

  -- it began later
  pub begins_later : (first : Origin) (old mid new : F)
      → KeepsStore shows kept sound moment left_since [] old mid → Begun first mid new
      → Begun first old new
  begins_later first old mid new before b = record {
    any_moment = λ none durable. joined moment left_since old mid new (NoneOrCopy first)
        (still_none first old mid before none durable)
        (b.any_moment (before.lasting journal_name None refl none)
        (before.durable journal_name 0 refl durable));
    foreign = foreign_then shows kept old mid new
        (foreign_kept shows kept sound moment left_since [] old mid before) b.foreign;
  }

  pub only_read : (old new : F) → KeepsAll shows kept old new → sound new ≡ true
      → Elapses (moment old) (moment new) (left_since old) (left_since new)
      (LeavesAll shows kept old) → KeepsStore shows kept sound moment left_since [] old new
  only_read old new k s time =
      none_changed shows kept sound moment left_since only_now [] old new k s time

module _ {F : Type 0} (shows : F → List ℕ → Option (List ℕ) → Type 0)
    (kept : F → List ℕ → ℕ → Type 0) (sound : F → Bool) (moment : F → ℕ)
    (left_since : F → ℕ → Left → Type 0)
    (only_now : (f : F) (name : List ℕ) (x : Option (List ℕ)) (n : ℕ) (left : Left) → shows f name x
    → kept f name n → left_since f (moment f) left → MayLeaveOf n x (left name))
    (earlier : (f : F) (t u : ℕ) (left : Left) → t ≤ u → u ≤ moment f → left_since f u left
    → left_since f t left) where
  abbrev Next : Origin → F → Saved → List BlockPart → Type 0
  Next first f saved made =
      IsNext shows kept sound moment left_since only_now earlier first first.world
      (record { folder = f; names = [] }) saved made

  abbrev first_at : World → Values → Origin
  first_at w values = record { world = w; values = values }

  -- what was written of a snapshot
  pub next_of : (s : SnapshotParts) (values : Values) (saved : Saved) (places : List Place)
      (made : List BlockPart) (f : F) → saved ≡ save values s places → IsSaved saved
      → AreRewritten s.blocks made → AreAt shows kept places made f
      → Next (first_at (world_of s) values) f saved made
  next_of s values saved places made f is head anew at =
      next_head shows kept sound moment left_since only_now earlier (first_at (world_of s) values)
      (record { folder = f; names = [] }) s values saved places made refl is head anew at

  whole_finds : (first : Origin) (f : F) (saved : Saved) (made : List BlockPart) (left : Left)
      (next : Next first f saved made) → MayStand (started_with saved made)
      → NoneOrWhole (files_at shows kept saved.places made f next.blocks)
      (contents_with (head_texts saved) []) left → NoneOrCopy first left
  whole_finds first f saved made left next may is =
      ⊎_elim (λ none. inl none)
      (λ has. (let state : IsState saved made [] left =
      record {
        head = next.head;
        kept = record { contents = []; names = []; spell = refl; journal = has.journal };
        blocks = lie_at shows kept saved.places made f left next.blocks has.files;
      } in
      inr (
        finds_in first (λ (v : World). v ≡ first.world) left refl (state_stands first [] [] [] saved made left refl
            (record { world = ap (λ (w : World). Ok w) next.world; values = next.values }) state),
        may_start saved made [] left state may,
      )))
      is

  -- what a crash leaves while the journal is begun
  abbrev Leaves : F → F → List ℕ → Type 0
  Leaves old new text =
      (contents : List (List ℕ)) (files : List Named) → IsJournalText contents text
      → AllByRecursion IsApart files → AreThere shows kept files old
      → LeavesOnly moment left_since old new (NoneOrWhole files contents)

  pub begins_so : (first : Origin) (old mid new : F) (saved : Saved) (made : List BlockPart)
      (text : List ℕ) → KeepsStore shows kept sound moment left_since [] old mid
      → Next first mid saved made → MayStand (started_with saved made)
      → IsJournalText (contents_with (head_texts saved) []) text
      → Leaves mid new text → KeepsOthers shows kept next_name journal_name mid new
      → Begins shows kept moment left_since first old new
  begins_so first old mid new saved made text stays next may whole leaves others =
      let contents = contents_with (head_texts saved) [] in
      let files = files_at shows kept saved.places made mid next.blocks in
      begins_later shows kept sound moment left_since only_now first old mid new stays (record {
        any_moment = λ none durable. weaker moment left_since mid new (NoneOrWhole files contents)
            (NoneOrCopy first) (λ left is. whole_finds first mid saved made left next may is)
            (leaves contents files whole
            (apart_both shows kept [] saved.places [] made mid tt next.blocks)
            (there_at shows kept saved.places made mid next.blocks));
        foreign = foreign_beside shows kept mid new others;
      })

  -- then a start finds the store
  pub finds_so : (first : Origin) (mid new : F) (saved : Saved) (made : List BlockPart)
      (text : List ℕ) → Next first mid saved made
      → IsJournalText (contents_with (head_texts saved) []) text
      → ((contents : List (List ℕ)) → IsJournalText contents text
      → rolls.Keeps shows kept sound contents new (length text))
      → ((files : List Named) → AllByRecursion IsApart files → AreThere shows kept files mid
      → AreThere shows kept files new)
      → FindsNow moment left_since new first
  finds_so first mid new saved made text next whole keeps stay =
      now_at shows kept sound moment left_since only_now earlier first (record { folder = new; names = [] })
      (length text) false saved.places made
      (begun_anew shows kept sound moment left_since only_now earlier first first.world
      (record { folder = mid; names = [] }) (record { folder = new; names = [] }) (length text) saved made next
      refl (keeps (contents_with (head_texts saved) []) whole) stay) refl

-- how many blocks there are
pub counted_so : (shown : List Shown) (s : SnapshotParts) → map part_in shown ≡ s.blocks
    → length shown ≡ length s.blocks
counted_so shown s is = sym (length-map shown part_in) ∙ ap length is

-- and how many a world has
pub as_many : (shown : List Shown) (s : SnapshotParts) → map part_in shown ≡ s.blocks
    → length shown ≡ (world_of s).blocks
unfolding world_of
as_many shown s is = counted_so shown s is

module _ {F : Type 0} (shows : F → List ℕ → Option (List ℕ) → Type 0)
    (kept : F → List ℕ → ℕ → Type 0) (sound : F → Bool) (moment : F → ℕ)
    (left_since : F → ℕ → Left → Type 0)
    (only_now : (f : F) (name : List ℕ) (x : Option (List ℕ)) (n : ℕ) (left : Left) → shows f name x
    → kept f name n → left_since f (moment f) left → MayLeaveOf n x (left name))
    (earlier : (f : F) (t u : ℕ) (left : Left) → t ≤ u → u ≤ moment f → left_since f u left
    → left_since f t left) where
  -- a copy that began later

  pub copied_later : (saved : Saved) (parts : List BlockPart) (events : List Event) (told : Copied)
      (old mid new : F) → KeepsStore shows kept sound moment left_since [] old mid
      → IsCopied shows kept moment left_since saved parts events told mid new
      → IsCopied shows kept moment left_since saved parts events told old new
  copied_later saved parts events told old mid new before c = record {
    world = c.world;
    accepted = c.accepted;
    finds = c.finds;
    events = c.events;
    blocks = c.blocks;
    begins = begins_later shows kept sound moment left_since only_now
        (copy_of saved parts c.world) old mid new before c.begins;
    says = c.says;
  }

  pub may_later : (saved : Saved) (parts : List BlockPart) (events : List Event) (old mid new : F)
      → Untouched shows kept moment left_since old mid
      → KeepsStore shows kept sound moment left_since [] old mid
      → MayBegin shows kept moment left_since saved parts events mid new
      → MayBegin shows kept moment left_since saved parts events old new
  may_later saved parts events old mid new same before m =
      ⊎_elim (λ after. inl (untouched_on shows kept moment left_since earlier old mid new same after))
      (λ b. inr (
        b.0,
        b.1,
        begins_later shows kept sound moment left_since only_now
            (copy_of saved parts b.0) old mid new before b.2,
      )) m

  pub later_or_not : (P : Saved → List BlockPart → List Event → Type 0) (old mid new : F)
      → Untouched shows kept moment left_since old mid
      → KeepsStore shows kept sound moment left_since [] old mid
      → Untouched shows kept moment left_since mid new
      ⊎ ((saved : Saved) × (parts : List BlockPart) × (events : List Event) × P saved parts events
      × MayBegin shows kept moment left_since saved parts events mid new)
      → Untouched shows kept moment left_since old new
      ⊎ ((saved : Saved) × (parts : List BlockPart) × (events : List Event) × P saved parts events
      × MayBegin shows kept moment left_since saved parts events old new)
  later_or_not P old mid new same before (inl after) =
      inl (untouched_on shows kept moment left_since earlier old mid new same after)
  later_or_not P old mid new same before (inr b) =
      inr (b.0, b.1, b.2, b.3, may_later b.0 b.1 b.2 old mid new same before b.4)
