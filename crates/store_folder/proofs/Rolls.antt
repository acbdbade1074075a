-- A journal that begins with a new head.
use Rattle.std.proofs.Common.{◌≡◌, ◌≢◌, inl, inr, ⊎_elim, ℕ, ◌≤◌, Bool, true, false, List, []}
use Rattle.std.proofs.Common.{◌∷◌, ◌++◌, Option, Some, Result, Err, get_or, refl, sym, ap, subst}
use Rattle.std.proofs.Common.{◌∙◌, arith}
use Rattle.std.specs.Prelude.{codes, decimal, IsErrOf}
use Rattle.std.specs.List.{AllByRecursion}
use Rattle.std.proofs.lemmas.List.{append-nil}
use Rattle.data_folder.specs.declared.journal_file.JournalFile.{JournalFile}
use Rattle.data_folder.specs.declared.rolling.RollError.{RollError}
use Rattle.data_folder.specs.declared.rolling.RollError.TheVariants.{Closed, NotWritten, Lost}
use Rattle.data_folder.specs.Folders.{HasFile, Left, LeavesOnly, MayLeaveOf}
use Rattle.data_folder.specs.JournalFile.{journal_name, next_name, JournalLeft}
use Rattle.data_folder.specs.JournalLaws.{left_now}
use Rattle.data_folder.specs.Rolls as rolls
use Rattle.data_folder.specs.States.{AreThere, HasFiles, IsApart, IsOldOrNew, Named}
use Rattle.data_folder.proofs.Moments.{joined as joined_calls, started as before_all, weaker}
use Rattle.event_journal.specs.Holding.{contents_with}
use Rattle.event_journal.specs.Naming.{Spell}
use Rattle.name_table.specs.Names.{Label}
use Rattle.event_journal.proofs.Kept.{holds_open}
use Rattle.head.specs.Heads.{BlockPart}
use Rattle.head.specs.Worlds.{Event}
use Rattle.head_record.specs.Saved.{Place, Saved}
use Rattle.head_record.specs.Spelling.{head_texts, IsSaved}
use Rattle.head_record.proofs.Worlds.{in_front}
use Rattle.store_folder.specs.declared.error.RollFault.TheVariants as fault
use Rattle.store_folder.specs.Blocks.{BlockFiles, named_files}
use Rattle.store_folder.specs.Holding.{AreAt, HoldsAfterHead, HoldsAt, HoldsStore, HoldsThese}
use Rattle.store_folder.specs.Holding.{HoldsStoreBetween}
use Rattle.store_folder.specs.KeeperLaws.{settled_found, settled_state, state_stands}
use Rattle.store_folder.specs.Origins.{Origin}
use Rattle.store_folder.specs.Rolls.{MayRoll}
use Rattle.store_folder.specs.Starting.{StartFinds, StartFindsEither}
use Rattle.store_folder.specs.States.{IsAfter, IsEither, IsState, LieAt, StandsFor}
use Rattle.store_folder.specs.States.{StandsForEither}

-- lists, one after another

pub joined : {A : Type 0} (P : A → Type 0) (xs ys : List A) → AllByRecursion P xs
    → AllByRecursion P ys → AllByRecursion P (xs ++ ys)
joined P [] ys h i = i
joined P (x ∷ xs) ys h i = (h.0, joined P xs ys h.1 i)

pub parted : {A : Type 0} (P : A → Type 0) (xs ys : List A) → AllByRecursion P (xs ++ ys)
    → AllByRecursion P xs × AllByRecursion P ys
parted P [] ys h = (tt, h)
parted P (x ∷ xs) ys h = let rest = parted P xs ys h.1 in ((h.0, rest.0), rest.1)

-- no file of a block is a journal

pub begins_so : (rest name : List ℕ) → get_or name 0 0 ≡ 106 → codes "blocks/" ++ rest ≢ name
begins_so rest name is e =
    absurd (let n : 98 ≡ 106 = ap (λ (xs : List ℕ). get_or xs 0 0) e ∙ is in omega (arith, n))

apart : (rest bytes : List ℕ) → IsApart (codes "blocks/" ++ rest, bytes)
apart rest bytes = (begins_so rest journal_name refl, begins_so rest next_name refl)

all_apart : (p : Place) (files : BlockFiles) → AllByRecursion IsApart (named_files p files)
all_apart p files =
    let of = λ (name : List ℕ). decimal p.0 ++ (codes "/" ++ name) in (
      apart (of (codes "meta.json")) files.meta,
      (
        apart (of (codes "index")) files.index,
        (
          apart (of (codes "chunks/000001")) files.chunks,
          (apart (of (codes "tombstones")) files.tombstones, tt),
        ),
      ),
    )

module _ {F : Type 0} (shows : F → List ℕ → Option (List ℕ) → Type 0)
    (kept : F → List ℕ → ℕ → Type 0) where
  -- all files of the blocks
  abbrev pub files_at : (places : List Place) (parts : List BlockPart) (f : F)
      → AreAt shows kept places parts f → List Named
  files_at [] [] f at = []
  files_at [] (b ∷ parts) f at = absurd at
  files_at (p ∷ places) [] f at = absurd at
  files_at (p ∷ places) (b ∷ parts) f at =
      named_files p at.0.0 ++ files_at places parts f at.1

  pub there_at : (places : List Place) (parts : List BlockPart) (f : F)
      (at : AreAt shows kept places parts f)
      → AreThere shows kept (files_at places parts f at) f
  there_at [] [] f at = tt
  there_at [] (b ∷ parts) f at = absurd at
  there_at (p ∷ places) [] f at = absurd at
  there_at (p ∷ places) (b ∷ parts) f at =
      joined (λ (file : Named). HasFile shows kept file.0 file.1 f) (named_files p at.0.0)
      (files_at places parts f at.1) at.0.2 (there_at places parts f at.1)

  apart_at : (places : List Place) (parts : List BlockPart) (f : F)
      (at : AreAt shows kept places parts f)
      → AllByRecursion IsApart (files_at places parts f at)
  apart_at [] [] f at = tt
  apart_at [] (b ∷ parts) f at = absurd at
  apart_at (p ∷ places) [] f at = absurd at
  apart_at (p ∷ places) (b ∷ parts) f at =
      joined IsApart (named_files p at.0.0) (files_at places parts f at.1) (all_apart p at.0.0)
      (apart_at places parts f at.1)

  pub lie_at : (places : List Place) (parts : List BlockPart) (f : F) (left : Left)
      (at : AreAt shows kept places parts f)
      → HasFiles (files_at places parts f at) left → LieAt places parts left
  lie_at [] [] f left at h = tt
  lie_at [] (b ∷ parts) f left at h = absurd at
  lie_at (p ∷ places) [] f left at h = absurd at
  lie_at (p ∷ places) (b ∷ parts) f left at h =
      let split =
      parted (λ (file : Named). left file.0 ≡ Some file.1) (named_files p at.0.0)
      (files_at places parts f at.1) h in
      ((at.0.0, at.0.1, split.0), lie_at places parts f left at.1 split.1)

  -- the blocks stay, where all files apart from the journals do
  pub blocks_rolled : (places : List Place) (parts : List BlockPart) (old new : F)
      → ((files : List Named) → AllByRecursion IsApart files → AreThere shows kept files old
      → AreThere shows kept files new)
      → AreAt shows kept places parts old → AreAt shows kept places parts new
  blocks_rolled [] [] old new stay at = tt
  blocks_rolled [] (b ∷ parts) old new stay at = absurd at
  blocks_rolled (p ∷ places) [] old new stay at = absurd at
  blocks_rolled (p ∷ places) (b ∷ parts) old new stay at = (
    (at.0.0, at.0.1, stay (named_files p at.0.0) (all_apart p at.0.0) at.0.2),
    blocks_rolled places parts old new stay at.1,
  )

  -- of two heads
  abbrev pub files_of_both : (a b : List Place) (old new : List BlockPart) (f : F)
      → AreAt shows kept a old f → AreAt shows kept b new f → List Named
  files_of_both a b old new f first second = files_at a old f first ++ files_at b new f second

  pub there_both : (a b : List Place) (old new : List BlockPart) (f : F)
      (first : AreAt shows kept a old f) (second : AreAt shows kept b new f)
      → AreThere shows kept (files_of_both a b old new f first second) f
  there_both a b old new f first second =
      joined (λ (file : Named). HasFile shows kept file.0 file.1 f) (files_at a old f first)
      (files_at b new f second) (there_at a old f first) (there_at b new f second)

  pub apart_both : (a b : List Place) (old new : List BlockPart) (f : F)
      (first : AreAt shows kept a old f) (second : AreAt shows kept b new f)
      → AllByRecursion IsApart (files_of_both a b old new f first second)
  apart_both a b old new f first second =
      joined IsApart (files_at a old f first) (files_at b new f second) (apart_at a old f first)
      (apart_at b new f second)

module _ {F : Type 0} (shows : F → List ℕ → Option (List ℕ) → Type 0)
    (kept : F → List ℕ → ℕ → Type 0) (sound : F → Bool) (moment : F → ℕ)
    (left_since : F → ℕ → Left → Type 0) where
  abbrev These : Origin → JournalFile F → ℕ → Bool → List Event → Saved → List BlockPart
      → List Event → Type 0
  These first m len closed events saved parts late =
      HoldsThese shows kept sound moment left_since first m len closed events saved parts late

  -- where the blocks of the head lie
  pub at_these : (first : Origin) (m : JournalFile F) (len : ℕ) (closed : Bool)
      (events : List Event) (saved : Saved) (parts : List BlockPart) (late : List Event)
      (places : List Place) → These first m len closed events saved parts late
      → saved.places ≡ places
      → HoldsAt shows kept sound moment left_since first m len closed events places parts
  at_these first m len closed events saved parts late places t is =
      (t.0, ap (λ (x : Saved). x.places) t.1 ∙ is, t.2)

  -- what is so of the head, its blocks and the events after it
  pub of_these : (P : Saved → List BlockPart → List Event → Type 0) (first : Origin)
      (m : JournalFile F) (len : ℕ) (closed : Bool) (events : List Event) (saved : Saved)
      (parts : List BlockPart) (late : List Event)
      (t : These first m len closed events saved parts late)
      → P t.0.saved t.0.parts t.0.late → P saved parts late
  of_these P first m len closed events saved parts late t p =
      subst (λ (es : List Event). P saved parts es) t.3
      (subst (λ (bs : List BlockPart). P saved bs t.0.late) t.2
      (subst (λ (x : Saved). P x t.0.parts t.0.late) t.1 p))

module _ {F : Type 0} (shows : F → List ℕ → Option (List ℕ) → Type 0)
    (kept : F → List ℕ → ℕ → Type 0) (sound : F → Bool) (moment : F → ℕ)
    (left_since : F → ℕ → Left → Type 0)
    (only_now : (f : F) (name : List ℕ) (x : Option (List ℕ)) (n : ℕ) (left : Left) → shows f name x
    → kept f name n → left_since f (moment f) left → MayLeaveOf n x (left name))
    (earlier : (f : F) (t u : ℕ) (left : Left) → t ≤ u → u ≤ moment f → left_since f u left
    → left_since f t left) where
  abbrev HoldsAll : Origin → JournalFile F → ℕ → Bool → List Event → Type 0
  HoldsAll first m len closed events =
      HoldsAfterHead shows kept sound moment left_since first m len closed events

  abbrev May : Origin → JournalFile F → ℕ → Bool → List Event → List Event → Saved
      → List BlockPart → Type 0
  May first m len closed events after saved parts =
      MayRoll shows kept sound moment left_since first m len closed events after saved parts

  abbrev KeepsHere : List (List ℕ) → JournalFile F → ℕ → Type 0
  KeepsHere contents m len = rolls.Keeps shows kept sound contents m.folder len

  -- what the journal of a folder has
  pub keeps_now : (first : Origin) (m : JournalFile F) (len : ℕ) (closed : Bool)
      (events : List Event) (h : HoldsAll first m len closed events) → closed ≡ false
      → KeepsHere (head_texts h.saved ++ h.journal.contents) m len
  keeps_now first m len closed events h opened =
      let k = h.journal.keeps opened in
      record {
        each = k.each;
        file = record { shown = k.has.all; durable = k.has.durable };
        is_sound = k.has.is_sound;
        counted = k.counted;
      }

  -- a journal of a head and events after it
  abbrev pub after_head : (first : Origin) (m : JournalFile F) (len : ℕ) (closed : Bool) (saved : Saved)
      (parts : List BlockPart) (events early late : List Event) (contents : List (List ℕ))
      (names : List Label) → events ≡ early ++ late → IsSaved saved → Spell contents late names
      → m.names ≡ names → IsAfter first early saved parts
      → KeepsHere (head_texts saved ++ contents) m len
      → AreAt shows kept saved.places parts m.folder → HoldsAll first m len closed events
  after_head first m len closed saved parts events early late contents names all head spell named
      begins k at = record {
        saved = saved;
        parts = parts;
        early = early;
        late = late;
        all = all;
        head = head;
        begins = begins;
        journal = holds_open
            (λ (j : JournalFile F) (bytes : List ℕ). shows j.folder journal_name (Some bytes))
            (λ (j : JournalFile F) (n : ℕ). kept j.folder journal_name n)
            (λ (j : JournalFile F). sound j.folder) (λ (j : JournalFile F). moment j.folder)
            (λ (j : JournalFile F) (t : ℕ) (bytes : List ℕ). JournalLeft left_since j.folder t bytes)
            (λ j bytes n left shown durable had. left_now n bytes left (had.0 journal_name) had.2
            (only_now j.folder journal_name (Some bytes) n had.0 shown durable had.1))
            (λ j t u left le fits had. (had.0, earlier j.folder t u had.0 le fits had.1, had.2))
            (head_texts saved) contents m len closed m.names names late (in_front saved) spell named
            (record {
              each = k.each;
              has = record { all = k.file.shown; durable = k.file.durable; is_sound = k.is_sound };
              counted = k.counted;
            });
        blocks = at;
      }

  -- the new journal has the events after, before its head
  pub rolled : (first : Origin) (old new : JournalFile F) (len new_len : ℕ) (was closed : Bool)
      (saved : Saved) (parts : List BlockPart) (events after : List Event)
      → May first old len was events after saved parts → IsSaved saved → new.names ≡ []
      → KeepsHere (contents_with (head_texts saved) []) new new_len
      → ((files : List Named) → AllByRecursion IsApart files → AreThere shows kept files old.folder
      → AreThere shows kept files new.folder)
      → HoldsThese shows kept sound moment left_since first new new_len closed after saved parts []
  rolled first old new len new_len was closed saved parts events after m head named k stay = (
    after_head first new new_len closed saved parts after after [] [] []
        (sym (append-nil after)) head refl named (record { world = m.world; values = m.values }) k
        (blocks_rolled shows kept saved.places parts old.folder new.folder stay m.blocks),
    refl,
    refl,
    refl,
  )

  -- what is left meanwhile

  old_or_new : (first : Origin) (old : JournalFile F) (len : ℕ) (was : Bool) (saved : Saved)
      (parts : List BlockPart) (events : List Event) (left : Left)
      (h : HoldsAll first old len was events) (at : AreAt shows kept saved.places parts old.folder)
      → IsSaved saved
      → IsOldOrNew
      (files_of_both shows kept h.saved.places saved.places h.parts parts old.folder h.blocks at)
      (head_texts h.saved ++ h.journal.contents) (contents_with (head_texts saved) []) left
      → IsEither h.saved h.parts h.late saved parts left
  old_or_new first old len was saved parts events left h at head is =
      let split =
      parted (λ (file : Named). left file.0 ≡ Some file.1)
      (files_at shows kept h.saved.places h.parts old.folder h.blocks)
      (files_at shows kept saved.places parts old.folder at) is.files in
      ⊎_elim
      (λ had. inl (record {
        head = h.head;
        kept = record {
          contents = h.journal.contents;
          names = h.journal.after;
          spell = h.journal.spell;
          journal = had;
        };
        blocks = lie_at shows kept h.saved.places h.parts old.folder left h.blocks split.0;
      }))
      (λ has. inr (record {
        head = head;
        kept = record { contents = []; names = []; spell = refl; journal = has };
        blocks = lie_at shows kept saved.places parts old.folder left at split.1;
      }))
      is.journal

  pub roll_leaves : (first : Origin) (old : JournalFile F) (new : F) (len : ℕ) (was : Bool)
      (saved : Saved) (parts : List BlockPart) (events : List Event)
      (h : HoldsAll first old len was events) (at : AreAt shows kept saved.places parts old.folder)
      → IsSaved saved
      → LeavesOnly moment left_since old.folder new (IsOldOrNew
      (files_of_both shows kept h.saved.places saved.places h.parts parts old.folder h.blocks at)
      (head_texts h.saved ++ h.journal.contents) (contents_with (head_texts saved) []))
      → LeavesOnly moment left_since old.folder new (IsEither h.saved h.parts h.late saved parts)
  roll_leaves first old new len was saved parts events h at head leaves =
      weaker moment left_since old.folder new _ (IsEither h.saved h.parts h.late saved parts)
      (λ left is. old_or_new first old len was saved parts events left h at head is) leaves

  -- so a start finds the events before, or those after
  pub roll_finds : (first : Origin) (old new : JournalFile F) (len : ℕ) (was : Bool)
      (saved : Saved) (parts : List BlockPart) (events after : List Event)
      (h : HoldsAll first old len was events)
      (m : May first old len was events after saved parts)
      → LeavesOnly moment left_since old.folder new.folder
      (IsEither h.saved h.parts h.late saved parts)
      → StartFindsEither moment left_since old.folder new.folder first events after
  roll_finds first old new len was saved parts events after h m leaves =
      weaker moment left_since old.folder new.folder (IsEither h.saved h.parts h.late saved parts)
      (StandsForEither first events after)
      (λ left is. ⊎_elim
      (λ before. inl (state_stands first events h.early h.late h.saved h.parts left h.all h.begins
      before))
      (λ anew. inr (state_stands first after after [] saved parts left (sym (append-nil after))
      (record { world = m.world; values = m.values }) anew)) is) leaves

  -- where nothing was done
  pub stays_so : (first : Origin) (m : JournalFile F) (len : ℕ) (closed : Bool)
      (events : List Event)
      → HoldsStore shows kept sound moment left_since first m len closed events → closed ≡ false
      → StartFinds moment left_since m.folder m.folder first events
  stays_so first m len closed events h opened =
      before_all moment left_since m.folder (StandsFor first events)
      (λ left had. settled_found shows kept sound moment left_since only_now first m len closed
      events left h opened had)

  pub state_rests : (first : Origin) (m : JournalFile F) (len : ℕ) (closed : Bool)
      (events : List Event) (h : HoldsAll first m len closed events) → closed ≡ false
      → LeavesOnly moment left_since m.folder m.folder (IsState h.saved h.parts h.late)
  state_rests first m len closed events h opened =
      before_all moment left_since m.folder (IsState h.saved h.parts h.late)
      (λ left had. settled_state shows kept sound moment left_since only_now first m len closed
      events left h opened had)

  -- after an error, if the old journal goes on, its head is the one before
  pub same_these : (first : Origin) (old new : JournalFile F) (len new_len : ℕ)
      (was closed : Bool) (events : List Event) (saved : Saved) (parts : List BlockPart)
      (late : List Event)
      (t : HoldsThese shows kept sound moment left_since first old len was events saved parts late)
      → was ≡ false → new.names ≡ old.names
      → KeepsHere (head_texts t.0.saved ++ t.0.journal.contents) new new_len
      → ((files : List Named) → AllByRecursion IsApart files → AreThere shows kept files old.folder
      → AreThere shows kept files new.folder)
      → HoldsThese shows kept sound moment left_since first new new_len closed events saved parts
      late
  same_these first old new len new_len was closed events saved parts late t opened same k stay =
      let h : HoldsAll first old len was events = t.0 in (
        after_head first new new_len closed h.saved h.parts events h.early h.late
            h.journal.contents h.journal.after h.all h.head h.journal.spell
            (same ∙ h.journal.named opened) h.begins k
            (blocks_rolled shows kept h.saved.places h.parts old.folder new.folder stay h.blocks),
        t.1,
        t.2,
        t.3,
      )

  pub same_head : (first : Origin) (old new : JournalFile F) (len new_len : ℕ)
      (was closed : Bool) (events : List Event) (places : List Place) (parts : List BlockPart)
      (at : HoldsAt shows kept sound moment left_since first old len was events places parts)
      → was ≡ false → new.names ≡ old.names
      → KeepsHere (head_texts at.0.saved ++ at.0.journal.contents) new new_len
      → ((files : List Named) → AllByRecursion IsApart files → AreThere shows kept files old.folder
      → AreThere shows kept files new.folder)
      → HoldsAt shows kept sound moment left_since first new new_len closed events places parts
  same_head first old new len new_len was closed events places parts at opened same k stay =
      let h : HoldsAll first old len was events = at.0 in
      let t = same_these first old new len new_len was closed events h.saved h.parts h.late
      (h, refl, refl, refl) opened same k stay in
      (t.0, ap (λ (x : Saved). x.places) t.1 ∙ at.1, t.2 ∙ at.2)

  -- after an error the old journal goes on, or it is closed
  pub not_rolled : (first : Origin) (old new : JournalFile F) (len new_len : ℕ)
      (was closed : Bool) (events after : List Event) (h : HoldsAll first old len was events)
      → was ≡ false → new.names ≡ old.names
      → (closed ≡ false → KeepsHere (head_texts h.saved ++ h.journal.contents) new new_len)
      → ((files : List Named) → AllByRecursion IsApart files → AreThere shows kept files old.folder
      → AreThere shows kept files new.folder)
      → StartFindsEither moment left_since old.folder new.folder first events after
      → HoldsStoreBetween shows kept sound moment left_since first new new_len closed events after
  not_rolled first old new len new_len was false events after h opened same k stay finds =
      inl (after_head first new new_len false h.saved h.parts events h.early h.late
      h.journal.contents h.journal.after h.all h.head h.journal.spell
      (same ∙ h.journal.named opened) h.begins (k refl)
      (blocks_rolled shows kept h.saved.places h.parts old.folder new.folder stay h.blocks))
  not_rolled first old new len new_len was true events after h opened same k stay finds =
      inr (record {
        is_closed = refl;
        leaves = λ left had. ⊎_elim
            (λ s. inl (
              [],
              subst (λ (x : List Event). StandsFor first x left) (sym (append-nil events)) s,
            ))
            (λ s. inr (
              [],
              subst (λ (x : List Event). StandsFor first x left) (sym (append-nil after)) s,
            ))
            (finds.each left
            (earlier new.folder (moment old.folder) (moment new.folder) left finds.later
            (omega arith) had));
      })

-- one call after another
module _ {F : Type 0} (moment : F → ℕ) (left_since : F → ℕ → Left → Type 0) where
  pub finds_on : (first : Origin) (events : List Event) (a b c : F)
      → StartFinds moment left_since a b first events → StartFinds moment left_since b c first events
      → StartFinds moment left_since a c first events
  finds_on first events a b c one two =
      joined_calls moment left_since a b c (StandsFor first events) one two

  -- those before
  pub finds_first : (first : Origin) (events after : List Event) (a b : F)
      → StartFinds moment left_since a b first events
      → StartFindsEither moment left_since a b first events after
  finds_first first events after a b found =
      weaker moment left_since a b (StandsFor first events) (StandsForEither first events after)
      (λ left s. inl s) found

  -- either of the same
  pub finds_same : (first : Origin) (events : List Event) (a b : F)
      → StartFindsEither moment left_since a b first events events
      → StartFinds moment left_since a b first events
  finds_same first events a b found =
      weaker moment left_since a b (StandsForEither first events events) (StandsFor first events)
      (λ left is. ⊎_elim (λ s. s) (λ s. s) is) found

-- a journal that is not lost goes on
pub goes_on : {A : Type 0} (r : Result A RollError) (e : RollError) (was closed failed : Bool)
    → r ≡ Err e → (IsErrOf r Closed → was ≡ true)
    → (IsErrOf r NotWritten → (closed ≡ false) × (failed ≡ true))
    → (fault.Folder e ≡ fault.Folder Lost → ⊥) → was ≡ false → closed ≡ false
goes_on r Closed was closed failed is shut written unless opened =
    absurd (let a : true ≡ false = sym (shut is) ∙ opened in cc)
goes_on r NotWritten was closed failed is shut written unless opened = (written is).0
goes_on r Lost was closed failed is shut written unless opened = absurd (unless refl)
