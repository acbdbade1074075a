-- What the meta.json of blocks says while a store is saved and swept.
use Rattle.std.proofs.Common.{◌≡◌, ◌⊎◌, ℕ, ◌≤◌, ◌++◌, Bool, false, List, [], ◌∷◌, Option, Some, Result, Ok}
use Rattle.std.proofs.Common.{ap, Err, IfErr, IfOk, length, refl, subst, subst₂, sym, ◌∙◌}
use Rattle.std.specs.Prelude.{MatchResult, codes}
use Rattle.std.specs.List.{AllByRecursion}
use Rattle.block_folder.specs.declared.values.Values.{Values}
use Rattle.data_folder.specs.declared.journal_file.JournalFile.{JournalFile}
use Rattle.data_folder.specs.Folders.{KeepsAll, Left, LeavesOnly, MayLeaveOf}
use Rattle.data_folder.specs.JournalFile.{journal_name}
use Rattle.data_folder.specs.Rolls.{Keeps}
use Rattle.data_folder.specs.States.{AreThere, Named}
use Rattle.data_folder.specs.Sweeping.{KeepsStore}
use Rattle.event_journal.specs.Naming.{Spell}
use Rattle.head.specs.Heads.{BlockPart, world_of}
use Rattle.head.specs.Resuming.{MayStand}
use Rattle.head.specs.Worlds.{Event}
use Rattle.head_record.specs.Saved.{Place, Saved}
use Rattle.head_record.specs.Spelling.{head_texts}
use Rattle.journal.specs.Records.{file_of}
use Rattle.journal.proofs.Keeping.{itself}
use Rattle.name_table.specs.Names.{Label}
use Rattle.store_folder.specs.declared.journals.FoundJournal.{FoundJournal}
use Rattle.store_folder.specs.Blocks.{name_in}
use Rattle.store_folder.specs.Finding.{IsFoundStore}
use Rattle.store_folder.specs.Holding.{AreAt, HoldsAfterHead}
use Rattle.store_folder.specs.Origins.{Origin}
use Rattle.store_folder.specs.States.{IsState, started}
use Rattle.store_folder.specs.StoreLaws.{blocks_left, one_saved, whole_left}
use Rattle.store_folder.specs.Sweeps.{names_at}
use Rattle.store_folder.specs.Writing.{EachSays}
use Rattle.store_folder.proofs.Files as files
use Rattle.store_folder.proofs.Fronts.{as_many}
use Rattle.store_folder.proofs.HeadsAlone.{head_alone}
use Rattle.store_folder.proofs.Rolls.{keeps_now}
use Rattle.store_folder.proofs.Says.{says_on}
use Rattle.store_folder.proofs.Swept.{blocks_kept}
use Rattle.store_joiner.specs.Finds.{BlocksSay, SaysIn}
use Rattle.store_joiner.specs.Joins.{AreRolled}
use Rattle.store_joiner.specs.Stores.{HasSaved, HasStore, LeavesNow, SaysAbove, SaysNumbered}
use Rattle.store_joiner.specs.Stores.{SaysOne, StaysNumbered}
use Rattle.store_joiner.proofs.Stores.{now_in}

-- answers

pub err_match : {A E : Type 0} (r : Result A E) (P : A → Type 0) (R S : E → Type 0)
    → ((e : E) → R e → S e) → MatchResult r P R → IfErr r S
err_match (Ok x) P R S f m = tt
err_match (Err e) P R S f m = f e m

pub if_match : {A E : Type 0} (r : Result A E) (P Q S : A → Type 0) (R : E → Type 0)
    → ((x : A) → P x → Q x → S x) → IfOk r P → MatchResult r Q R → IfOk r S
if_match (Ok x) P Q S R f p q = f x p q
if_match (Err e) P Q S R f p q = tt

-- contents that spell no events are none
spelled_none : (contents : List (List ℕ)) (after : List Label) → Spell contents [] after
    → contents ≡ []
spelled_none [] after spell = refl
spelled_none (content ∷ contents) after spell = absurd spell

module _ {F : Type 0} (shows : F → List ℕ → Option (List ℕ) → Type 0)
    (kept : F → List ℕ → ℕ → Type 0) where
  all_there : (files : List Named) (old new : F) → KeepsAll shows kept old new
      → AreThere shows kept files old → AreThere shows kept files new
  all_there [] old new k there = tt
  all_there (file ∷ files) old new k there = (
    record {
      shown = k.same file.0 (Some file.1) there.0.shown;
      durable = k.durable file.0 _ there.0.durable;
    },
    all_there files old new k there.1,
  )

  -- where nothing was changed
  pub says_all : (values : Values) (places : List Place) (old new : F)
      → KeepsAll shows kept old new → EachSays shows kept values places old
      → EachSays shows kept values places new
  says_all values places old new k says =
      says_on shows kept values places old new
      (λ files among there. all_there files old new k there) says

  pub has_all : (saved : Saved) (parts : List BlockPart) (events : List Event) (old new : F)
      → KeepsAll shows kept old new → HasStore shows kept saved parts events old
      → HasStore shows kept saved parts events new
  has_all saved parts events old new k h = record {
    file = h.file;
    has = files.file_stays shows kept journal_name h.file old new k h.has;
    journal = h.journal;
    blocks = files.blocks_kept shows kept saved.places parts old new k h.blocks;
  }

-- so many blocks lie at the places of a head
counted_at : {F : Type 0} (shows : F → List ℕ → Option (List ℕ) → Type 0)
    (kept : F → List ℕ → ℕ → Type 0) (sound : F → Bool) (moment : F → ℕ)
    (left_since : F → ℕ → Left → Type 0) (head : Saved) (parts : List BlockPart) (f : F)
    → AreAt shows kept head.places parts f
    → length head.places ≡ (world_of (started head parts)).blocks
unfolding world_of
counted_at shows kept sound moment left_since head parts f at =
    as_many shows kept sound moment left_since head.places parts f at

-- where the blocks of a store lie that was saved, and then replaced
pub numbered : {F : Type 0} (shows : F → List ℕ → Option (List ℕ) → Type 0)
    (kept : F → List ℕ → ℕ → Type 0) (sound : F → Bool) (moment : F → ℕ)
    (left_since : F → ℕ → Left → Type 0) (others : List Place) (head : Saved)
    (parts : List BlockPart) (mid new : F)
    → (head.places ≡ others) ⊎ AreRolled others head.places
    → AreAt shows kept head.places parts mid → SaysAbove shows kept head.places new
    → SaysNumbered shows kept others (world_of (started head parts)).blocks new
numbered shows kept sound moment left_since others head parts mid new begins at says = (
  says.0,
  says.1,
  record {
    saved = head.places;
    begins = begins;
    many = counted_at shows kept sound moment left_since head parts mid at;
    above = says.2;
  },
  says.3,
)

-- where they lie that were saved, and not replaced
pub numbered_still : {F : Type 0} (shows : F → List ℕ → Option (List ℕ) → Type 0)
    (kept : F → List ℕ → ℕ → Type 0) (sound : F → Bool) (moment : F → ℕ)
    (left_since : F → ℕ → Left → Type 0) (others : List Place) (head : Saved)
    (parts : List BlockPart) (new : F)
    → (head.places ≡ others) ⊎ AreRolled others head.places → HasSaved shows kept head parts new
    → StaysNumbered shows kept others (world_of (started head parts)).blocks new
numbered_still shows kept sound moment left_since others head parts new begins lies = record {
  saved = head;
  parts = parts;
  lies = lies;
  begins = begins;
  many = counted_at shows kept sound moment left_since head parts new lies.1;
}

module _ {F : Type 0} (shows : F → List ℕ → Option (List ℕ) → Type 0)
    (kept : F → List ℕ → ℕ → Type 0) (sound : F → Bool) (moment : F → ℕ)
    (left_since : F → ℕ → Left → Type 0)
    (only_now : (f : F) (name : List ℕ) (x : Option (List ℕ)) (n : ℕ) (left : Left) → shows f name x
    → kept f name n → left_since f (moment f) left → MayLeaveOf n x (left name))
    (earlier : (f : F) (t u : ℕ) (left : Left) → t ≤ u → u ≤ moment f → left_since f u left
    → left_since f t left) where
  -- what is left says what the files say that are there for good
  says_left : (values : Values) (places : List Place) (f : F) (left : Left)
      → EachSays shows kept values places f → left_since f (moment f) left
      → AllByRecursion (SaysIn values left) places
  says_left values [] f left says had = tt
  says_left values (p ∷ places) f left says had =
      let meta = says.0.0 in
      let name = name_in p.0 (codes "meta.json") in (
        (
          meta,
          whole_left meta (left name)
              (only_now f name (Some meta) (length meta) left says.0.1.shown says.0.1.durable had),
          says.0.2,
        ),
        says_left values places f left says.1 had,
      )

  say_state : (saved : Saved) (parts : List BlockPart) (events : List Event) (f : F) (left : Left)
      → IsState saved parts events left → EachSays shows kept saved.values saved.places f
      → left_since f (moment f) left → BlocksSay left
  say_state saved parts events f left state says had fits other others late found =
      let same : other ≡ saved =
      one_saved saved other parts others events late left fits state found in
      subst (λ (x : Saved). AllByRecursion (SaysIn x.values left) x.places) (sym same)
      (says_left saved.values saved.places f left says had)

  -- of a store that lies in a folder
  pub say_now : (saved : Saved) (parts : List BlockPart) (events : List Event) (f : F)
      → HasStore shows kept saved parts events f
      → EachSays shows kept saved.values saved.places f → LeavesNow moment left_since f BlocksSay
  say_now saved parts events f h says left had =
      say_state saved parts events f left (record {
        head = h.journal.head;
        kept = record {
          contents = h.journal.stands.contents;
          names = h.journal.stands.names;
          spell = h.journal.stands.spell;
          journal = (
            h.file,
            whole_left h.file (left journal_name)
                (only_now f journal_name (Some h.file) (length h.file) left h.has.shown
                h.has.durable had),
            h.journal.stands.recovers,
          );
        };
        blocks = blocks_left shows kept saved.places parts f left h.blocks
            (λ n x k away shown durable. only_now f n x k left shown durable had);
      }) says had

  pub found_says : (f : F) (j : FoundJournal) (parts : List BlockPart)
      → IsFoundStore shows kept j parts f → EachSays shows kept j.head.values j.head.places f
      → LeavesNow moment left_since f BlocksSay
  found_says f j parts is says =
      say_now j.head parts j.events.items f
      (record { file = is.file; has = is.has; journal = is.journal.is; blocks = is.blocks }) says

  -- where each moment leaves it
  pub left_says : (saved : Saved) (parts : List BlockPart) (events : List Event) (old new : F)
      → LeavesOnly moment left_since old new (IsState saved parts events)
      → EachSays shows kept saved.values saved.places new
      → LeavesNow moment left_since new BlocksSay
  left_says saved parts events old new leaves says left had =
      say_state saved parts events new left
      (now_in shows kept sound moment left_since only_now earlier old new
      (IsState saved parts events) leaves left had) says had

  -- where it is open
  pub head_says : (first : Origin) (m : JournalFile F) (len : ℕ) (closed : Bool)
      (events : List Event) (places : List Place)
      (h : HoldsAfterHead shows kept sound moment left_since first m len closed events)
      → h.saved.places ≡ places → closed ≡ false → EachSays shows kept first.values places m.folder
      → LeavesNow moment left_since m.folder BlocksSay
  head_says first m len closed events places h at opened says =
      let contents = head_texts h.saved ++ h.journal.contents in
      let k = h.journal.keeps opened in
      say_now h.saved h.parts h.late m.folder (record {
        file = file_of contents;
        has = record { shown = k.has.all; durable = k.has.durable };
        journal = record {
          head = h.head;
          stands = record {
            before = h.journal.before;
            contents = h.journal.contents;
            names = h.journal.after;
            spell = h.journal.spell;
            recovers = itself contents k.each;
          };
        };
        blocks = h.blocks;
      })
      (subst₂ (λ (v : Values) (ps : List Place). EachSays shows kept v ps m.folder)
      (sym h.begins.values) (sym at) says)

  -- a store at rest that was swept
  pub swept_rests : (first : Origin) (m : JournalFile F) (len : ℕ) (closed : Bool)
      (events : List Event) (saved : Saved) (parts : List BlockPart) (places : List Place) (new : F)
      (h : HoldsAfterHead shows kept sound moment left_since first m len closed events)
      → h.saved ≡ saved → h.parts ≡ parts → h.late ≡ events → closed ≡ false → events ≡ []
      → places ≡ saved.places
      → KeepsStore shows kept sound moment left_since (names_at places) m.folder new
      → HasSaved shows kept saved parts new
  swept_rests first m len closed events saved parts places new h head blocks late opened none at swept =
      let keeps : KeepsStore shows kept sound moment left_since (names_at h.saved.places) m.folder new =
      subst (λ (ps : List Place). KeepsStore shows kept sound moment left_since (names_at ps) m.folder
      new) (at ∙ sym (ap (λ (x : Saved). x.places) head)) swept in
      let after = keeps.journal (head_texts h.saved ++ h.journal.contents) len
      (keeps_now shows kept sound moment left_since only_now earlier first m len closed events h
      opened) in
      let no_contents : h.journal.contents ≡ [] =
      spelled_none h.journal.contents h.journal.after
      (subst (λ (es : List Event). Spell h.journal.contents es h.journal.after) (late ∙ none)
      h.journal.spell) in
      subst₂ (λ (x : Saved) (bs : List BlockPart). HasSaved shows kept x bs new) head blocks (
        head_alone shows kept sound h.saved new len h.head
            (subst (λ (cs : List (List ℕ)). Keeps shows kept sound (head_texts h.saved ++ cs) new
            len) no_contents after),
        blocks_kept shows kept sound moment left_since h.saved.places h.parts m.folder new h.blocks
            keeps,
      )

  pub swept_says : (saved : Saved) (parts : List BlockPart) (places : List Place) (old new : F)
      → places ≡ saved.places
      → KeepsStore shows kept sound moment left_since (names_at places) old new
      → HasSaved shows kept saved parts new
      → MayStand (started saved parts) → EachSays shows kept saved.values saved.places old
      → SaysOne shows kept new
  swept_says saved parts places old new at swept rests may says =
      let keeps : KeepsStore shows kept sound moment left_since (names_at saved.places) old new =
      subst (λ (ps : List Place). KeepsStore shows kept sound moment left_since (names_at ps) old new)
      at swept in (
        saved.values,
        saved.places,
        record {
          saved = saved;
          alone = rests.0;
          means = refl;
          names = refl;
          says = says_on shows kept saved.values saved.places old new
              (λ files among there. keeps.files files among there) says;
          parts = parts;
          blocks = rests.1;
          stands = may;
        },
      )
