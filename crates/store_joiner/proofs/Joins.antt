-- A store that begins with its blocks joined.
use Rattle.std.proofs.Common.{◌≡◌, ◌⊎◌, inl, inr, ⊎_elim, ℕ, ◌≤◌, Bool, false, List, [], ◌∷◌}
use Rattle.std.proofs.Common.{◌++◌, ◌+◌, zero, suc, Option, Some, Result, Ok, refl, sym, ap, subst, ◌∙◌}
use Rattle.std.specs.Prelude.{length}
use Rattle.std.specs.List.{AllByRecursion}
use Rattle.block_folder.specs.declared.values.Values.{Values}
use Rattle.data_folder.specs.declared.journal_file.JournalFile.{JournalFile}
use Rattle.data_folder.specs.Folders.{Left, LeavesOnly, MayLeaveOf}
use Rattle.data_folder.specs.Rolls as rolls
use Rattle.data_folder.specs.States.{AreThere, IsApart, IsOldOrNew, Named}
use Rattle.data_folder.specs.Sweeping.{KeepsStore}
use Rattle.data_folder.proofs.Moments.{weaker}
use Rattle.event_journal.specs.Holding.{contents_with}
use Rattle.head.specs.Heads.{BlockPart, SnapshotParts, head_part, newest_in, world_of}
use Rattle.head.specs.Refusals.{Refusal}
use Rattle.head.specs.Resuming.{MayStand}
use Rattle.head.specs.Worlds.{Event, World}
use Rattle.head_record.specs.Saved.{Place, Saved, save}
use Rattle.head_record.specs.Spelling.{head_texts, IsSaved}
use Rattle.journal.specs.Group.{IsJournalText}
use Rattle.labels.specs.Contents.{Content}
use Rattle.name_table.specs.Names.{Label}
use Rattle.labels.specs.Parts.{Part, laid_over, over, rows_in}
use Rattle.labels.specs.Rows.{points_of}
use Rattle.store_folder.specs.Holding.{AreAt, HoldsAfterHead, HoldsAt, HoldsThese}
use Rattle.store_folder.specs.KeeperLaws.{settled_found}
use Rattle.store_folder.specs.Origins.{Origin}
use Rattle.store_folder.specs.RewritingLaws.{same_world}
use Rattle.store_folder.specs.Starting.{StartFinds}
use Rattle.store_folder.specs.States.{IsEither, MayStart, StandsFor, started}
use Rattle.store_folder.specs.Sweeps.{names_at}
use Rattle.store_folder.specs.Writing.{AreRewritten, places_from}
use Rattle.store_folder.proofs.Rolls.{after_head, apart_both, blocks_rolled, files_at, files_of_both}
use Rattle.store_folder.proofs.Rolls.{at_these, keeps_now, lie_at, of_these, parted, roll_leaves}
use Rattle.store_folder.proofs.Rolls.{same_head, there_both}
use Rattle.store_folder.proofs.Saves.{each_like, have_same}
use Rattle.store_folder.proofs.Swept.{holds_swept, swept_finds, these_leave, these_swept}
use Rattle.store_joiner.specs.Finds.{Finds, FindsEither, FindsNow, other_of}
use Rattle.head.specs.Joins.{HoldSame, parts_in}
use Rattle.store_joiner.specs.Joins.{with_blocks}
use Rattle.store_joiner.proofs.Starting.{either_starts, starts_of}
use Rattle.store_joiner.proofs.Stores.{finds_in}

abbrev fine : World → Result World Refusal
fine w = Ok w

-- the world of joined blocks

pub over_joined : (c : Content) (xs : List BlockPart) (rest : List Part)
    → over c (parts_in xs ++ rest) ≡ over (over c (parts_in xs)) rest
over_joined c [] rest = refl
over_joined c (x ∷ xs) rest = over_joined (laid_over (points_of (rows_in x.part)) c) xs rest

abbrev world_from : Content → SnapshotParts → ℕ → World
world_from content s n =
    record { content = content; newest = newest_in s.head; floor = s.floor; blocks = n }

pub joined_world : (s : SnapshotParts) (blocks : List BlockPart) → HoldSame s.blocks blocks
    → world_of (record s { blocks = blocks }) ≡ with_blocks (length blocks) (world_of s)
unfolding world_of
joined_world s blocks same =
    ap (λ (c : Content). world_from c s (length blocks))
    (over_joined [] blocks (head_part s.head ∷ [])
    ∙ ap (λ (c : Content). over c (head_part s.head ∷ [])) (sym (same [] tt))
    ∙ sym (over_joined [] s.blocks (head_part s.head ∷ [])))

-- how many places there are
pub counted : (first n : ℕ) → length (places_from first n) ≡ n
counted first zero = refl
counted first (suc n) = ap suc (counted (first + 1) n)

-- what a start finds of what a crash leaves

module _ {F : Type 0} (moment : F → ℕ) (left_since : F → ℕ → Left → Type 0) where
  -- where what is left stands for the first world
  pub finds_first : (old new : F) (first : Origin) (next : World)
      → StartFinds moment left_since old new first []
      → FindsEither moment left_since old new first next
  finds_first old new first next leaves =
      let P = λ (v : World). (v ≡ first.world) ⊎ (v ≡ next) in
      weaker moment left_since old new (StandsFor first []) (Finds first.values P)
      (λ left s. finds_in first P left (inl refl) s) leaves

  -- where it stands for the other
  pub finds_other : (old new : F) (first : Origin) (next : World)
      → StartFinds moment left_since old new (other_of first next) []
      → FindsEither moment left_since old new first next
  finds_other old new first next leaves =
      let P = λ (v : World). (v ≡ first.world) ⊎ (v ≡ next) in
      weaker moment left_since old new (StandsFor (other_of first next) []) (Finds first.values P)
      (λ left s. finds_in (other_of first next) P left (inr refl) s) leaves

module _ {F : Type 0} (shows : F → List ℕ → Option (List ℕ) → Type 0)
    (kept : F → List ℕ → ℕ → Type 0) (sound : F → Bool) (moment : F → ℕ)
    (left_since : F → ℕ → Left → Type 0)
    (only_now : (f : F) (name : List ℕ) (x : Option (List ℕ)) (n : ℕ) (left : Left) → shows f name x
    → kept f name n → left_since f (moment f) left → MayLeaveOf n x (left name))
    (earlier : (f : F) (t u : ℕ) (left : Left) → t ≤ u → u ≤ moment f → left_since f u left
    → left_since f t left) where
  abbrev At : Origin → JournalFile F → ℕ → Bool → List Place → List BlockPart → Type 0
  At first m len closed places parts =
      HoldsAt shows kept sound moment left_since first m len closed [] places parts

  -- a store at rest
  pub now_at : (first : Origin) (m : JournalFile F) (len : ℕ) (closed : Bool) (places : List Place)
      (parts : List BlockPart) → At first m len closed places parts → closed ≡ false
      → FindsNow moment left_since m.folder first
  now_at first m len closed places parts at opened left had =
      finds_in first (λ (v : World). v ≡ first.world) left refl
      (settled_found shows kept sound moment left_since only_now first m len closed [] left (inl at.0)
      opened had)

  -- the head that is to be
  pub record IsNext (first : Origin) (next : World) (m : JournalFile F) (saved : Saved)
      (made : List BlockPart) : Type 0 where
    pub head : IsSaved saved
    pub world : next ≡ world_of (started saved made)
    pub values : saved.values ≡ first.values
    pub blocks : AreAt shows kept saved.places made m.folder

  stands_so : (first : Origin) (next : World) (old : JournalFile F) (len : ℕ) (was : Bool)
      (saved : Saved) (made : List BlockPart) (left : Left)
      (h : HoldsAfterHead shows kept sound moment left_since first old len was [])
      (m : IsNext first next old saved made)
      → IsOldOrNew
      (files_of_both shows kept h.saved.places saved.places h.parts made old.folder h.blocks m.blocks)
      (head_texts h.saved ++ h.journal.contents) (contents_with (head_texts saved) []) left
      → StandsFor first [] left ⊎ StandsFor (other_of first next) [] left
  stands_so first next old len was saved made left h m is =
      let split =
      parted (λ (file : Named). left file.0 ≡ Some file.1)
      (files_at shows kept h.saved.places h.parts old.folder h.blocks)
      (files_at shows kept saved.places made old.folder m.blocks) is.files in
      ⊎_elim
      (λ had. inl (record {
        saved = h.saved;
        parts = h.parts;
        early = h.early;
        late = h.late;
        all = h.all;
        begins = h.begins;
        state = record {
          head = h.head;
          kept = record {
            contents = h.journal.contents;
            names = h.journal.after;
            spell = h.journal.spell;
            journal = had;
          };
          blocks = lie_at shows kept h.saved.places h.parts old.folder left h.blocks split.0;
        };
      }))
      (λ has. inr (record {
        saved = saved;
        parts = made;
        early = [];
        late = [];
        all = refl;
        begins = record { world = ap fine m.world; values = m.values };
        state = record {
          head = m.head;
          kept = record { contents = []; names = []; spell = refl; journal = has };
          blocks = lie_at shows kept saved.places made old.folder left m.blocks split.1;
        };
      }))
      is.journal

  -- while the journal is begun anew
  pub rolling_finds : (first : Origin) (next : World) (old new : JournalFile F) (len : ℕ) (was : Bool)
      (saved : Saved) (made : List BlockPart)
      (h : HoldsAfterHead shows kept sound moment left_since first old len was [])
      (m : IsNext first next old saved made)
      → LeavesOnly moment left_since old.folder new.folder (IsOldOrNew
      (files_of_both shows kept h.saved.places saved.places h.parts made old.folder h.blocks m.blocks)
      (head_texts h.saved ++ h.journal.contents) (contents_with (head_texts saved) []))
      → FindsEither moment left_since old.folder new.folder first next
  rolling_finds first next old new len was saved made h m leaves =
      let P = λ (v : World). (v ≡ first.world) ⊎ (v ≡ next) in
      weaker moment left_since old.folder new.folder _ (Finds first.values P)
      (λ left is. ⊎_elim (λ s. finds_in first P left (inl refl) s)
      (λ s. finds_in (other_of first next) P left (inr refl) s)
      (stands_so first next old len was saved made left h m is)) leaves

  -- then the store is the other
  pub begun_these : (first : Origin) (next : World) (old new : JournalFile F) (new_len : ℕ)
      (saved : Saved) (made : List BlockPart) → IsNext first next old saved made
      → new.names ≡ [] → rolls.Keeps shows kept sound (contents_with (head_texts saved) []) new.folder new_len
      → ((files : List Named) → AllByRecursion IsApart files → AreThere shows kept files old.folder
      → AreThere shows kept files new.folder)
      → HoldsThese shows kept sound moment left_since (other_of first next) new new_len false []
      saved made []
  begun_these first next old new new_len saved made m named k stay = (
    after_head shows kept sound moment left_since only_now earlier (other_of first next) new new_len
        false saved made [] [] [] [] [] refl m.head refl named
        (record { world = ap fine m.world; values = m.values }) k
        (blocks_rolled shows kept saved.places made old.folder new.folder stay m.blocks),
    refl,
    refl,
    refl,
  )

  pub begun_anew : (first : Origin) (next : World) (old new : JournalFile F) (new_len : ℕ)
      (saved : Saved) (made : List BlockPart) → IsNext first next old saved made
      → new.names ≡ [] → rolls.Keeps shows kept sound (contents_with (head_texts saved) []) new.folder new_len
      → ((files : List Named) → AllByRecursion IsApart files → AreThere shows kept files old.folder
      → AreThere shows kept files new.folder)
      → At (other_of first next) new new_len false saved.places made
  begun_anew first next old new new_len saved made m named k stay =
      at_these shows kept sound moment left_since (other_of first next) new new_len false [] saved
      made [] saved.places
      (begun_these first next old new new_len saved made m named k stay) refl

  abbrev Stays : List Place → F → F → Type 0
  Stays places old new = KeepsStore shows kept sound moment left_since (names_at places) old new

  -- what was written beside a store leaves it as it was
  pub still_at : (first : Origin) (old : JournalFile F) (new : F) (len : ℕ) (closed : Bool)
      (places : List Place) (parts : List BlockPart) → At first old len closed places parts
      → closed ≡ false → Stays places old.folder new
      → At first (record (old) { folder = new }) len closed places parts
  still_at first old new len closed places parts at opened stays =
      holds_swept shows kept sound moment left_since only_now earlier first old
      (record (old) { folder = new }) len closed [] places parts (names_at places) at opened refl
      refl stays

  pub meanwhile : (first : Origin) (old : JournalFile F) (new : F) (len : ℕ) (closed : Bool)
      (places : List Place) (parts : List BlockPart) → At first old len closed places parts
      → closed ≡ false → Stays places old.folder new
      → StartFinds moment left_since old.folder new first []
  meanwhile first old new len closed places parts at opened stays =
      swept_finds shows kept sound moment left_since only_now earlier first old
      (record (old) { folder = new })
      len closed [] places parts (names_at places) at opened refl stays

  -- what was written of a snapshot is the head that is to be
  pub next_head : (first : Origin) (m : JournalFile F) (s : SnapshotParts) (values : Values)
      (saved : Saved) (places : List Place) (made : List BlockPart) → values ≡ first.values
      → saved ≡ save values s places → IsSaved saved
      → AreRewritten s.blocks made → AreAt shows kept places made m.folder
      → IsNext first (world_of s) m saved made
  next_head first m s values saved places made means is head anew at = record {
    head = head;
    world = same_world s saved made (have_same s.blocks made (each_like s.blocks made anew))
        (ap (λ (x : Saved). x.head) (sym is)) (ap (λ (x : Saved). x.floor) (sym is));
    values = ap (λ (x : Saved). x.values) is ∙ means;
    blocks = subst (λ (ps : List Place). AreAt shows kept ps made m.folder)
        (ap (λ (x : Saved). x.places) (sym is)) at;
  }

  -- what a crash leaves while the journal is begun anew
  abbrev RollLeaves : F → F → ℕ → List ℕ → Type 0
  RollLeaves old new len text =
      (before after : List (List ℕ)) (files : List Named)
      → rolls.Keeps shows kept sound before old len → IsJournalText after text
      → AllByRecursion IsApart files → AreThere shows kept files old
      → LeavesOnly moment left_since old new (IsOldOrNew files before after)

  pub roll_either : (first : Origin) (next : World) (old : F) (names : List Label) (new : F)
      (len : ℕ) (closed : Bool)
      (places : List Place) (parts : List BlockPart) (saved : Saved) (made : List BlockPart)
      (text : List ℕ) → At first (record { folder = old; names = names }) len closed places parts → closed ≡ false
      → IsNext first next (record { folder = old; names = names }) saved made
      → IsJournalText (contents_with (head_texts saved) []) text → RollLeaves old new len text
      → FindsEither moment left_since old new first next
  roll_either first next old names new len closed places parts saved made text at opened m whole leaves =
      let h : HoldsAfterHead shows kept sound moment left_since first (record { folder = old; names = names }) len
      closed [] = at.0 in
      rolling_finds first next (record { folder = old; names = names })
      (record { folder = new; names = names }) len closed saved made h m
      (leaves (head_texts h.saved ++ h.journal.contents) (contents_with (head_texts saved) [])
      (files_of_both shows kept h.saved.places saved.places h.parts made old h.blocks m.blocks)
      (keeps_now shows kept sound moment left_since only_now earlier first (record { folder = old; names = names }) len
      closed [] h opened)
      whole
      (apart_both shows kept h.saved.places saved.places h.parts made old h.blocks m.blocks)
      (there_both shows kept h.saved.places saved.places h.parts made old h.blocks m.blocks))

  -- what the journal has before
  pub keeps_before : (first : Origin) (old : F) (names : List Label) (len : ℕ) (closed : Bool) (places : List Place)
      (parts : List BlockPart) (at : At first (record { folder = old; names = names }) len closed places parts)
      → closed ≡ false
      → rolls.Keeps shows kept sound (head_texts at.0.saved ++ at.0.journal.contents) old len
  keeps_before first old names len closed places parts at opened =
      keeps_now shows kept sound moment left_since only_now earlier first (record { folder = old; names = names }) len
      closed [] at.0 opened

  -- where it failed and goes on
  pub as_before : (first : Origin) (old : F) (names : List Label) (new : JournalFile F)
      (len new_len : ℕ) (was closed : Bool)
      (places : List Place) (parts : List BlockPart)
      (at : At first (record { folder = old; names = names }) len was places parts)
      → was ≡ false → new.names ≡ names
      → rolls.Keeps shows kept sound (head_texts at.0.saved ++ at.0.journal.contents) new.folder
      new_len
      → ((files : List Named) → AllByRecursion IsApart files → AreThere shows kept files old
      → AreThere shows kept files new.folder)
      → At first new new_len closed places parts
  as_before first old names new len new_len was closed places parts at opened same k stay =
      same_head shows kept sound moment left_since only_now earlier first (record { folder = old; names = names })
      new len new_len was closed [] places parts at opened same k stay

  -- what a start takes meanwhile

  pub writing_starts : (first : Origin) (old : JournalFile F) (new : F) (len : ℕ) (closed : Bool)
      (saved : Saved) (parts : List BlockPart) (late : List Event) (places : List Place)
      → HoldsThese shows kept sound moment left_since first old len closed [] saved parts late
      → closed ≡ false → saved.places ≡ places → Stays places old.folder new
      → MayStand (started saved parts) → LeavesOnly moment left_since old.folder new MayStart
  writing_starts first old new len closed saved parts late places t opened is stays may =
      starts_of moment left_since saved parts late old.folder new
      (these_leave shows kept sound moment left_since only_now earlier first old new len closed []
      saved parts late places t opened is stays) may

  pub rolling_starts : (first : Origin) (next : World) (before : JournalFile F) (old new : F)
      (len : ℕ) (closed : Bool) (saved : Saved) (parts : List BlockPart) (late : List Event)
      (places : List Place) (head : Saved) (made : List BlockPart) (text : List ℕ)
      → HoldsThese shows kept sound moment left_since first before len closed [] saved parts late
      → closed ≡ false → saved.places ≡ places → Stays places before.folder old
      → IsNext first next (record (before) { folder = old }) head made
      → IsJournalText (contents_with (head_texts head) []) text → RollLeaves old new len text
      → MayStand (started saved parts) → MayStand (started head made)
      → LeavesOnly moment left_since old new MayStart
  rolling_starts first next before old new len closed saved parts late places head made text t
      opened is stays m whole leaves may stands =
      let mid = record (before) { folder = old } in
      let u = these_swept shows kept sound moment left_since only_now earlier first before mid len
      closed [] saved parts late (names_at places) t opened refl (ap names_at (sym is)) stays in
      let h = u.0 in
      either_starts moment left_since saved parts late head made old new
      (of_these shows kept sound moment left_since
      (λ (x : Saved) (bs : List BlockPart) (es : List Event). LeavesOnly moment left_since old new
      (IsEither x bs es head made)) first mid len closed [] saved parts late u
      (roll_leaves shows kept sound moment left_since only_now earlier first mid new len closed head
      made [] h m.blocks m.head
      (leaves (head_texts h.saved ++ h.journal.contents) (contents_with (head_texts head) [])
      (files_of_both shows kept h.saved.places head.places h.parts made old h.blocks m.blocks)
      (keeps_now shows kept sound moment left_since only_now earlier first mid len closed [] h opened)
      whole
      (apart_both shows kept h.saved.places head.places h.parts made old h.blocks m.blocks)
      (there_both shows kept h.saved.places head.places h.parts made old h.blocks m.blocks))))
      may stands
