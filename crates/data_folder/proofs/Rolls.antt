-- A journal that is begun anew.
use Rattle.std.proofs.Common.{◌⊎◌, ◌≡◌, ◌≢◌, inl, inr, ⊎_elim, ℕ, Bool, true, List, []}
use Rattle.std.proofs.Common.{◌∷◌, Option, None, Some, length, subst, ap, ◌∙◌, arith}
use Rattle.std.specs.List.{AllByRecursion}
use Rattle.std.proofs.lemmas.List.{take_all}
use Rattle.journal.specs.Group.{IsJournalText}
use Rattle.journal.specs.Records.{file_of, IsContent}
use Rattle.journal.proofs.Keeping.{itself}
use Rattle.data_folder.specs.Folders.{Elapses, HasFile, IsOneOf, KeepsOthers, Left, LeavesOnly}
use Rattle.data_folder.specs.Folders.{LeavesOthers, MayLeaveOf}
use Rattle.data_folder.specs.JournalFile.{journal_name, next_name}
use Rattle.data_folder.specs.Rolls.{Keeps}
use Rattle.data_folder.specs.States.{AreThere, HasFiles, HasJournal, IsApart, IsNoneOrNew}
use Rattle.data_folder.specs.States.{IsOldOrNew, Named}
use Rattle.data_folder.proofs.Moments.{goes_on, started}

-- a file that is there for good is left whole
pub whole_left : (bytes : List ℕ) (found : Option (List ℕ))
    → MayLeaveOf (length bytes) (Some bytes) found
    → found ≡ Some bytes
whole_left bytes found m =
    m.1 ∙ ap (λ (x : List ℕ). Some x) (m.2.front ∙ take_all m.2.n bytes m.2.kept)

-- a whole file is the journal of its contents
pub journal_whole : (contents : List (List ℕ)) (left : Left) → AllByRecursion IsContent contents
    → left journal_name ≡ Some (file_of contents) → HasJournal contents left
journal_whole contents left each is = (file_of contents, is, itself contents each)

module _ {F : Type 0} (shows : F → List ℕ → Option (List ℕ) → Type 0)
    (kept : F → List ℕ → ℕ → Type 0) (sound : F → Bool) where
  -- files that a call does not name stay
  pub still_there : (a b : List ℕ) (old new : F) (files : List Named)
      → ((file : Named) → IsApart file → (file.0 ≢ a) × (file.0 ≢ b))
      → KeepsOthers shows kept a b old new → AllByRecursion IsApart files
      → AreThere shows kept files old → AreThere shows kept files new
  still_there a b old new [] far k apart there = tt
  still_there a b old new (file ∷ files) far k apart there =
      let away = far file apart.0 in (
        record {
          shown = k.same file.0 (Some file.1) away.0 away.1 there.0.shown;
          durable = k.durable file.0 (length file.1) away.0 away.1 there.0.durable;
        },
        still_there a b old new files far k apart.1 there.1,
      )

  -- a journal that a call does not name stays
  pub still_kept : (old new : F) (contents : List (List ℕ)) (len : ℕ)
      → journal_name ≢ next_name
      → KeepsOthers shows kept next_name next_name old new → sound new ≡ true
      → Keeps shows kept sound contents old len → Keeps shows kept sound contents new len
  still_kept old new contents len differ k s h = record {
    each = h.each;
    file = record {
      shown = k.same journal_name (Some (file_of contents)) differ differ h.file.shown;
      durable = k.durable journal_name (length (file_of contents)) differ differ h.file.durable;
    };
    is_sound = s;
    counted = h.counted;
  }

  -- the next journal is the journal
  pub renewed : (new : F) (contents : List (List ℕ)) (text : List ℕ) (len : ℕ)
      → IsJournalText contents text → HasFile shows kept journal_name text new
      → sound new ≡ true → len ≡ length text → Keeps shows kept sound contents new len
  renewed new contents text len t h s e = record {
    each = t.each;
    file = subst (λ (x : List ℕ). HasFile shows kept journal_name x new) t.whole h;
    is_sound = s;
    counted = e ∙ ap length t.whole;
  }

  -- during a call that does not name them, all files are left
  files_left : (a b : List ℕ) (old : F) (P : Left → Type 0) (left : Left) (files : List Named)
      → ((file : Named) → IsApart file → (file.0 ≢ a) × (file.0 ≢ b))
      → LeavesOthers shows kept a b old P left → AllByRecursion IsApart files
      → AreThere shows kept files old → HasFiles files left
  files_left a b old P left [] far l apart there = tt
  files_left a b old P left (file ∷ files) far l apart there =
      let away = far file apart.0 in (
        whole_left file.1 (left file.0)
            (l.others file.0 (Some file.1) (length file.1) away.0 away.1 there.0.shown
            there.0.durable),
        files_left a b old P left files far l apart.1 there.1,
      )

  -- while the next journal is written
  pub writing : (old : F) (P : Left → Type 0) (left : Left) (contents new : List (List ℕ))
      (files : List Named) (len : ℕ) → journal_name ≢ next_name
      → LeavesOthers shows kept next_name next_name old P left
      → Keeps shows kept sound contents old len → AllByRecursion IsApart files
      → AreThere shows kept files old → IsOldOrNew files contents new left
  writing old P left contents new files len differ l h apart there = record {
    files = files_left next_name next_name old P left files (λ file away. (away.1, away.1)) l apart
        there;
    journal = inl (journal_whole contents left h.each
        (whole_left (file_of contents) (left journal_name)
        (l.others journal_name (Some (file_of contents)) (length (file_of contents)) differ differ
        h.file.shown h.file.durable)));
  }

  -- while it takes the journal's name
  pub replacing : (mid : F) (left : Left) (contents new : List (List ℕ)) (text : List ℕ)
      (files : List Named) (len : ℕ)
      → LeavesOthers shows kept next_name journal_name mid
      (IsOneOf shows kept mid next_name journal_name) left
      → Keeps shows kept sound contents mid len → IsJournalText new text
      → HasFile shows kept next_name text mid → AllByRecursion IsApart files
      → AreThere shows kept files mid → IsOldOrNew files contents new left
  replacing mid left contents new text files len l h t next apart there = record {
    files = files_left next_name journal_name mid
        (IsOneOf shows kept mid next_name journal_name) left files
        (λ file away. (away.1, away.0)) l apart there;
    journal = ⊎_elim
        (λ was. inl (journal_whole contents left h.each
        (whole_left (file_of contents) (left journal_name) was)))
        (λ is. inr (journal_whole new left t.each (is ∙ ap (λ (x : List ℕ). Some x) t.whole)))
        (l.own (Some (file_of contents)) (length (file_of contents)) text h.file.shown
        h.file.durable next);
  }

  at_rest : (moment : F → ℕ) (left_since : F → ℕ → Left → Type 0)
      → ((f : F) (name : List ℕ) (x : Option (List ℕ)) (n : ℕ) (left : Left) → shows f name x
      → kept f name n → left_since f (moment f) left → MayLeaveOf n x (left name))
      → (f : F) (files : List Named) (left : Left) → left_since f (moment f) left
      → AreThere shows kept files f → HasFiles files left
  at_rest moment left_since now f [] left had there = tt
  at_rest moment left_since now f (file ∷ files) left had there = (
    whole_left file.1 (left file.0)
        (now f file.0 (Some file.1) (length file.1) left there.0.shown there.0.durable had),
    at_rest moment left_since now f files left had there.1,
  )

  -- at rest
  pub resting : (moment : F → ℕ) (left_since : F → ℕ → Left → Type 0)
      → ((f : F) (name : List ℕ) (x : Option (List ℕ)) (n : ℕ) (left : Left) → shows f name x
      → kept f name n → left_since f (moment f) left → MayLeaveOf n x (left name))
      → (f : F) (contents new : List (List ℕ)) (files : List Named) (len : ℕ)
      → Keeps shows kept sound contents f len → AreThere shows kept files f
      → LeavesOnly moment left_since f f (IsOldOrNew files contents new)
  resting moment left_since now f contents new files len h there =
      started moment left_since f (IsOldOrNew files contents new) (λ left had. record {
        files = at_rest moment left_since now f files left had there;
        journal = inl (journal_whole contents left h.each
            (whole_left (file_of contents) (left journal_name)
            (now f journal_name (Some (file_of contents)) (length (file_of contents)) left
            h.file.shown h.file.durable had)));
      })

pub differ : journal_name ≢ next_name
differ e = absurd (let n : 7 ≡ 12 = ap length e in omega (arith, n))

module _ {F : Type 0} (shows : F → List ℕ → Option (List ℕ) → Type 0)
    (kept : F → List ℕ → ℕ → Type 0) (sound : F → Bool) (moment : F → ℕ)
    (left_since : F → ℕ → Left → Type 0)
    (only_now : (f : F) (name : List ℕ) (x : Option (List ℕ)) (n : ℕ) (left : Left) → shows f name x
    → kept f name n → left_since f (moment f) left → MayLeaveOf n x (left name)) where
  -- after the next journal was written, or was not
  pub after_write : (old mid : F) (contents new : List (List ℕ)) (files : List Named) (len : ℕ)
      (P : Left → Type 0)
      → Elapses (moment old) (moment mid) (left_since old) (left_since mid)
      (LeavesOthers shows kept next_name next_name old P)
      → Keeps shows kept sound contents old len → AllByRecursion IsApart files
      → AreThere shows kept files old
      → LeavesOnly moment left_since old mid (IsOldOrNew files contents new)
  after_write old mid contents new files len P time h apart there =
      goes_on moment left_since old old mid (IsOldOrNew files contents new)
      (LeavesOthers shows kept next_name next_name old P)
      (resting shows kept sound moment left_since only_now old contents new files len h there) time
      (λ left l. writing shows kept sound old P left contents new files len differ l h apart there)

  -- after it took the journal's name, or may have
  pub after_replace : (old mid after : F) (contents new : List (List ℕ)) (text : List ℕ)
      (files : List Named) (len : ℕ) (P : Left → Type 0)
      → Elapses (moment old) (moment mid) (left_since old) (left_since mid)
      (LeavesOthers shows kept next_name next_name old P)
      → KeepsOthers shows kept next_name next_name old mid → sound mid ≡ true
      → HasFile shows kept next_name text mid
      → Elapses (moment mid) (moment after) (left_since mid) (left_since after)
      (LeavesOthers shows kept next_name journal_name mid
      (IsOneOf shows kept mid next_name journal_name))
      → Keeps shows kept sound contents old len → IsJournalText new text
      → AllByRecursion IsApart files → AreThere shows kept files old
      → LeavesOnly moment left_since old after (IsOldOrNew files contents new)
  after_replace old mid after contents new text files len P first others s next second h t apart
      there =
      goes_on moment left_since old mid after (IsOldOrNew files contents new)
      (LeavesOthers shows kept next_name journal_name mid
      (IsOneOf shows kept mid next_name journal_name))
      (after_write old mid contents new files len P first h apart there) second
      (λ left l. replacing shows kept sound mid left contents new text files len l
      (still_kept shows kept sound old mid contents len differ others s h) t next apart
      (still_there shows kept sound next_name next_name old mid files
      (λ file away. (away.1, away.1)) others apart there))

  -- the first journal of a folder

  none_left : (f : F) (new : List (List ℕ)) (left : Left) → MayLeaveOf 0 None (left journal_name)
      → IsNoneOrNew new left
  none_left f new left none = inl none

  pub none_yet : (f : F) (new : List (List ℕ)) → shows f journal_name None
      → kept f journal_name 0 → LeavesOnly moment left_since f f (IsNoneOrNew new)
  none_yet f new shown durable =
      started moment left_since f (IsNoneOrNew new)
      (λ left had. none_left f new left (only_now f journal_name None 0 left shown durable had))

  pub first_written : (old mid : F) (new : List (List ℕ)) (P : Left → Type 0)
      → Elapses (moment old) (moment mid) (left_since old) (left_since mid)
      (LeavesOthers shows kept next_name next_name old P)
      → shows old journal_name None → kept old journal_name 0
      → LeavesOnly moment left_since old mid (IsNoneOrNew new)
  first_written old mid new P time shown durable =
      goes_on moment left_since old old mid (IsNoneOrNew new)
      (LeavesOthers shows kept next_name next_name old P) (none_yet old new shown durable) time
      (λ left l. none_left old new left (l.others journal_name None 0 differ differ shown durable))

  pub first_begun : (old mid after : F) (new : List (List ℕ)) (text : List ℕ) (P : Left → Type 0)
      → Elapses (moment old) (moment mid) (left_since old) (left_since mid)
      (LeavesOthers shows kept next_name next_name old P)
      → KeepsOthers shows kept next_name next_name old mid
      → HasFile shows kept next_name text mid
      → Elapses (moment mid) (moment after) (left_since mid) (left_since after)
      (LeavesOthers shows kept next_name journal_name mid
      (IsOneOf shows kept mid next_name journal_name))
      → IsJournalText new text → shows old journal_name None → kept old journal_name 0
      → LeavesOnly moment left_since old after (IsNoneOrNew new)
  first_begun old mid after new text P first others next second t shown durable =
      goes_on moment left_since old mid after (IsNoneOrNew new)
      (LeavesOthers shows kept next_name journal_name mid
      (IsOneOf shows kept mid next_name journal_name))
      (first_written old mid new P first shown durable) second
      (λ left l. ⊎_elim (none_left old new left)
      (λ is. inr (journal_whole new left t.each (is ∙ ap (λ (x : List ℕ). Some x) t.whole)))
      (l.own None 0 text (others.same journal_name None differ differ shown)
      (others.durable journal_name 0 differ differ durable) next))

  -- the journal's file changes

  abbrev pub EitherFile : List ℕ → List ℕ → Left → Type 0
  EitherFile bytes text left =
      (left journal_name ≡ Some bytes) ⊎ (left journal_name ≡ Some text)

  pub file_written : (old mid : F) (bytes text : List ℕ) (P : Left → Type 0)
      → Elapses (moment old) (moment mid) (left_since old) (left_since mid)
      (LeavesOthers shows kept next_name next_name old P)
      → HasFile shows kept journal_name bytes old
      → LeavesOnly moment left_since old mid (EitherFile bytes text)
  file_written old mid bytes text P time has =
      goes_on moment left_since old old mid (EitherFile bytes text)
      (LeavesOthers shows kept next_name next_name old P)
      (started moment left_since old (EitherFile bytes text)
      (λ left had. inl (whole_left bytes (left journal_name)
      (only_now old journal_name (Some bytes) (length bytes) left has.shown has.durable had)))) time
      (λ left l. inl (whole_left bytes (left journal_name)
      (l.others journal_name (Some bytes) (length bytes) differ differ has.shown has.durable)))

  pub file_changed : (old mid after : F) (bytes text : List ℕ) (P : Left → Type 0)
      → Elapses (moment old) (moment mid) (left_since old) (left_since mid)
      (LeavesOthers shows kept next_name next_name old P)
      → KeepsOthers shows kept next_name next_name old mid
      → HasFile shows kept next_name text mid
      → Elapses (moment mid) (moment after) (left_since mid) (left_since after)
      (LeavesOthers shows kept next_name journal_name mid
      (IsOneOf shows kept mid next_name journal_name))
      → HasFile shows kept journal_name bytes old
      → LeavesOnly moment left_since old after (EitherFile bytes text)
  file_changed old mid after bytes text P first others next second has =
      goes_on moment left_since old mid after (EitherFile bytes text)
      (LeavesOthers shows kept next_name journal_name mid
      (IsOneOf shows kept mid next_name journal_name))
      (file_written old mid bytes text P first has) second
      (λ left l. ⊎_elim (λ may. inl (whole_left bytes (left journal_name) may)) (λ is. inr is)
      (l.own (Some bytes) (length bytes) text
      (others.same journal_name (Some bytes) differ differ has.shown)
      (others.durable journal_name (length bytes) differ differ has.durable) next))
