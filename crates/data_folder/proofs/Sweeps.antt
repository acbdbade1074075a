-- What a sweep leaves.
use Rattle.std.proofs.Common.{◌≡◌, ◌≢◌, ℕ, Bool, true, false, List, [], ◌∷◌, ◌++◌}
use Rattle.std.proofs.Common.{Option, None, Some, length, refl, subst, ap, ◌∙◌}
use Rattle.std.proofs.Common.{◌⊎◌, inl, inr, ⊎_elim}
use Rattle.std.specs.Prelude.{◌||◌}
use Rattle.std.specs.Str.{bytes_eq}
use Rattle.std.proofs.lemmas.List.Folds.{list_any-append}
use Rattle.journal.specs.Records.{file_of}
use Rattle.data_folder.specs.Folders.{Elapses, KeepsAll, KeepsOthers, Left, LeavesAll}
use Rattle.data_folder.specs.Folders.{HasFile, LeavesOnly, LeavesOthers, MayLeaveOf}
use Rattle.data_folder.specs.JournalFile.{journal_name}
use Rattle.data_folder.specs.Rolls.{Keeps}
use Rattle.data_folder.specs.States.{AreThere, HasFiles, HasStore, Named}
use Rattle.data_folder.specs.Sweeping.{AreAmong, AreKept, KeepsStore, is_among, is_kept, is_lasting}
use Rattle.data_folder.proofs.Moments.{goes_on, joined, started}
use Rattle.data_folder.proofs.Rolls.{journal_whole, whole_left}

not_both : {A : Type 0} (b : Bool) → b ≡ true → b ≡ false → A
not_both true t f = absurd cc
not_both false t f = absurd cc

or_one : (a b : Bool) → a ≡ true → (a || b) ≡ true
or_one a b h = ap (λ (x : Bool). x || b) h

or_cases : (a b : Bool) → (a || b) ≡ true → (a ≡ true) ⊎ (b ≡ true)
or_cases true b h = inl refl
or_cases false b h = inr h

or_two : (a b : Bool) → b ≡ true → (a || b) ≡ true
or_two true b h = refl
or_two false b h = h

-- a name that is not kept is none that is kept

not_kept : (names : List (List ℕ)) (name other : List ℕ) → is_kept names name ≡ false
    → is_kept names other ≡ true → other ≢ name
not_kept names name other apart kept is =
    not_both (is_kept names name) (subst (λ (x : List ℕ). is_kept names x ≡ true) is kept) apart

pub not_journal : (names : List (List ℕ)) (name : List ℕ) → is_kept names name ≡ false
    → journal_name ≢ name
not_journal names name apart = not_kept names name journal_name apart refl

not_file : (names : List (List ℕ)) (name : List ℕ) (file : Named)
    → is_kept names name ≡ false → is_among names file.0 ≡ true → file.0 ≢ name
not_file names name file apart among =
    not_kept names name file.0 apart (or_two (is_lasting file.0) (is_among names file.0) among)

not_lasting : (names : List (List ℕ)) (name other : List ℕ) → is_kept names name ≡ false
    → is_lasting other ≡ true → other ≢ name
not_lasting names name other apart lasts =
    not_kept names name other apart (or_one (is_lasting other) (is_among names other) lasts)

-- a name among these is among more of them

one_more : (names more : List (List ℕ)) (name : List ℕ) → is_among names name ≡ true
    → is_among (names ++ more) name ≡ true
one_more names more name h =
    list_any-append (λ (other : List ℕ). bytes_eq other name) names more
    ∙ or_one (is_among names name) (is_among more name) h

among_more : (names more : List (List ℕ)) (files : List Named) → AreAmong names files
    → AreAmong (names ++ more) files
among_more names more [] among = tt
among_more names more (file ∷ files) among =
    (one_more names more file.0 among.0, among_more names more files among.1)

-- so is one that is kept

or_either : (a b c : Bool) → (b ≡ true → c ≡ true) → (a || b) ≡ true → (a || c) ≡ true
or_either true b c f h = refl
or_either false b c f h = f h

kept_more : (names more : List (List ℕ)) (files : List Named) → AreKept names files
    → AreKept (names ++ more) files
kept_more names more [] k = tt
kept_more names more (file ∷ files) k = (
  or_either (is_lasting file.0) (is_among names file.0) (is_among (names ++ more) file.0)
      (one_more names more file.0) k.0,
  kept_more names more files k.1,
)

module _ {F : Type 0} (shows : F → List ℕ → Option (List ℕ) → Type 0)
    (kept : F → List ℕ → ℕ → Type 0) (sound : F → Bool) where
  still_there : (name : List ℕ) (names : List (List ℕ)) (old new : F) (files : List Named)
      → is_kept names name ≡ false → KeepsOthers shows kept name name old new
      → AreAmong names files → AreThere shows kept files old → AreThere shows kept files new
  still_there name names old new [] apart k among there = tt
  still_there name names old new (file ∷ files) apart k among there =
      let away = not_file names name file apart among.0 in (
        record {
          shown = k.same file.0 (Some file.1) away away there.0.shown;
          durable = k.durable file.0 (length file.1) away away there.0.durable;
        },
        still_there name names old new files apart k among.1 there.1,
      )

  still_kept : (name : List ℕ) (old new : F) (contents : List (List ℕ)) (len : ℕ)
      → journal_name ≢ name → KeepsOthers shows kept name name old new → sound new ≡ true
      → Keeps shows kept sound contents old len → Keeps shows kept sound contents new len
  still_kept name old new contents len away k s h = record {
    each = h.each;
    file = record {
      shown = k.same journal_name (Some (file_of contents)) away away h.file.shown;
      durable = k.durable journal_name (length (file_of contents)) away away h.file.durable;
    };
    is_sound = s;
    counted = h.counted;
  }

  files_left : (name : List ℕ) (names : List (List ℕ)) (old : F) (P : Left → Type 0) (left : Left)
      (files : List Named) → is_kept names name ≡ false
      → LeavesOthers shows kept name name old P left → AreAmong names files
      → AreThere shows kept files old → HasFiles files left
  files_left name names old P left [] apart l among there = tt
  files_left name names old P left (file ∷ files) apart l among there =
      let away = not_file names name file apart among.0 in (
        whole_left file.1 (left file.0)
            (l.others file.0 (Some file.1) (length file.1) away away there.0.shown
            there.0.durable),
        files_left name names old P left files apart l among.1 there.1,
      )

  kept_left : (name : List ℕ) (names : List (List ℕ)) (old : F) (P : Left → Type 0) (left : Left)
      (files : List Named) → is_kept names name ≡ false
      → LeavesOthers shows kept name name old P left → AreKept names files
      → AreThere shows kept files old → HasFiles files left
  kept_left name names old P left [] apart l k there = tt
  kept_left name names old P left (file ∷ files) apart l k there =
      let away = not_kept names name file.0 apart k.0 in (
        whole_left file.1 (left file.0)
            (l.others file.0 (Some file.1) (length file.1) away away there.0.shown
            there.0.durable),
        kept_left name names old P left files apart l k.1 there.1,
      )

module _ {F : Type 0} (shows : F → List ℕ → Option (List ℕ) → Type 0)
    (kept : F → List ℕ → ℕ → Type 0) (sound : F → Bool) (moment : F → ℕ)
    (left_since : F → ℕ → Left → Type 0)
    (only_now : (f : F) (name : List ℕ) (x : Option (List ℕ)) (n : ℕ) (left : Left) → shows f name x
    → kept f name n → left_since f (moment f) left → MayLeaveOf n x (left name)) where
  files_now : (f : F) (left : Left) (files : List Named) → left_since f (moment f) left
      → AreThere shows kept files f → HasFiles files left
  files_now f left [] had there = tt
  files_now f left (file ∷ files) had there = (
    whole_left file.1 (left file.0)
        (only_now f file.0 (Some file.1) (length file.1) left there.0.shown there.0.durable had),
    files_now f left files had there.1,
  )

  at_rest : (f : F) (contents : List (List ℕ)) (files : List Named) (len : ℕ)
      → Keeps shows kept sound contents f len → AreThere shows kept files f
      → LeavesOnly moment left_since f f (HasStore files contents)
  at_rest f contents files len h there =
      started moment left_since f (HasStore files contents) (λ left had. record {
        files = files_now f left files had there;
        journal = journal_whole contents left h.each
            (whole_left (file_of contents) (left journal_name)
            (only_now f journal_name (Some (file_of contents)) (length (file_of contents)) left
            h.file.shown h.file.durable had));
      })

  files_rest : (f : F) (files : List Named) → AreThere shows kept files f
      → LeavesOnly moment left_since f f (HasFiles files)
  files_rest f files there =
      started moment left_since f (HasFiles files) (λ left had. files_now f left files had there)

  absent_rest : (f : F) (name : List ℕ) → shows f name None → kept f name 0
      → LeavesOnly moment left_since f f (λ (left : Left). left name ≡ None)
  absent_rest f name none durable =
      started moment left_since f (λ (left : Left). left name ≡ None)
      (λ left had. only_now f name None 0 left none durable had)

  -- where nothing was removed
  pub nothing_removed : (names : List (List ℕ)) (f : F)
      → KeepsStore shows kept sound moment left_since names f f
  nothing_removed names f = record {
    journal = λ contents len h. h;
    files = λ files among there. there;
    any_moment = λ contents files len h among there. at_rest f contents files len h there;
    lasting = λ name x lasts shown. shown;
    durable = λ name n lasts durable. durable;
    left = λ files k there. files_rest f files there;
    absent = λ name lasts none durable. absent_rest f name none durable;
  }

  -- one file was written or removed, or was not
  pub one_changed : (name : List ℕ) (names : List (List ℕ)) (old new : F) (P : Left → Type 0)
      → is_kept names name ≡ false → KeepsOthers shows kept name name old new → sound new ≡ true
      → Elapses (moment old) (moment new) (left_since old) (left_since new)
      (LeavesOthers shows kept name name old P)
      → KeepsStore shows kept sound moment left_since names old new
  one_changed name names old new P apart k s time =
      let away = not_journal names name apart in
      record {
        journal = λ contents len h. still_kept shows kept sound name old new contents len away k s h;
        files = λ files among there.
            still_there shows kept sound name names old new files apart k among there;
        any_moment = λ contents files len h among there.
            goes_on moment left_since old old new (HasStore files contents)
            (LeavesOthers shows kept name name old P) (at_rest old contents files len h there) time
            (λ left l. record {
              files = files_left shows kept sound name names old P left files apart l among there;
              journal = journal_whole contents left h.each
                  (whole_left (file_of contents) (left journal_name)
                  (l.others journal_name (Some (file_of contents)) (length (file_of contents)) away
                  away h.file.shown h.file.durable));
            });
        lasting = λ other x lasts shown.
            let far = not_lasting names name other apart lasts in k.same other x far far shown;
        durable = λ other n lasts durable.
            let far = not_lasting names name other apart lasts in k.durable other n far far durable;
        left = λ files among there.
            goes_on moment left_since old old new (HasFiles files)
            (LeavesOthers shows kept name name old P) (files_rest old files there) time
            (λ left l. kept_left shows kept sound name names old P left files apart l among there);
        absent = λ other lasts none durable.
            let far = not_lasting names name other apart lasts in
            goes_on moment left_since old old new (λ (left : Left). left other ≡ None)
            (LeavesOthers shows kept name name old P) (absent_rest old other none durable) time
            (λ left l. l.others other None 0 far far none durable);
      }

  all_stay : (files : List Named) (old new : F) → KeepsAll shows kept old new
      → AreThere shows kept files old → AreThere shows kept files new
  all_stay [] old new k there = tt
  all_stay (file ∷ files) old new k there = (
    record {
      shown = k.same file.0 (Some file.1) there.0.shown;
      durable = k.durable file.0 (length file.1) there.0.durable;
    },
    all_stay files old new k there.1,
  )

  all_left : (files : List Named) (old : F) (left : Left) → LeavesAll shows kept old left
      → AreThere shows kept files old → HasFiles files left
  all_left [] old left l there = tt
  all_left (file ∷ files) old left l there = (
    whole_left file.1 (left file.0)
        (l file.0 (Some file.1) (length file.1) there.0.shown there.0.durable),
    all_left files old left l there.1,
  )

  -- no file was written or removed
  pub none_changed : (names : List (List ℕ)) (old new : F) → KeepsAll shows kept old new
      → sound new ≡ true
      → Elapses (moment old) (moment new) (left_since old) (left_since new)
      (LeavesAll shows kept old)
      → KeepsStore shows kept sound moment left_since names old new
  none_changed names old new k s time = record {
    journal = λ contents len h. record {
      each = h.each;
      file = record {
        shown = k.same journal_name (Some (file_of contents)) h.file.shown;
        durable = k.durable journal_name (length (file_of contents)) h.file.durable;
      };
      is_sound = s;
      counted = h.counted;
    };
    files = λ files among there. all_stay files old new k there;
    any_moment = λ contents files len h among there.
        goes_on moment left_since old old new (HasStore files contents)
        (LeavesAll shows kept old) (at_rest old contents files len h there) time
        (λ left l. record {
          files = all_left files old left l there;
          journal = journal_whole contents left h.each
              (whole_left (file_of contents) (left journal_name)
              (l journal_name (Some (file_of contents)) (length (file_of contents)) h.file.shown
              h.file.durable));
        });
    lasting = λ name x lasts shown. k.same name x shown;
    durable = λ name n lasts durable. k.durable name n durable;
    left = λ files among there.
        goes_on moment left_since old old new (HasFiles files) (LeavesAll shows kept old)
        (files_rest old files there) time (λ left l. all_left files old left l there);
    absent = λ name lasts none durable.
        goes_on moment left_since old old new (λ (left : Left). left name ≡ None)
        (LeavesAll shows kept old) (absent_rest old name none durable) time
        (λ left l. l name None 0 none durable);
  }

  -- what keeps the files of more names keeps those of fewer
  pub of_fewer : (names more : List (List ℕ)) (old new : F)
      → KeepsStore shows kept sound moment left_since (names ++ more) old new
      → KeepsStore shows kept sound moment left_since names old new
  of_fewer names more old new k = record {
    journal = k.journal;
    files = λ files among there. k.files files (among_more names more files among) there;
    any_moment = λ contents files len h among there.
        k.any_moment contents files len h (among_more names more files among) there;
    lasting = k.lasting;
    durable = k.durable;
    left = λ files among there. k.left files (kept_more names more files among) there;
    absent = k.absent;
  }

  one_there : (names : List (List ℕ)) (old new : F) (file : Named)
      → KeepsStore shows kept sound moment left_since names old new
      → is_kept names file.0 ≡ true → HasFile shows kept file.0 file.1 old
      → HasFile shows kept file.0 file.1 new
  one_there names old new file k among has =
      ⊎_elim (λ lasts. record {
        shown = k.lasting file.0 (Some file.1) lasts has.shown;
        durable = k.durable file.0 (length file.1) lasts has.durable;
      })
      (λ own. (k.files (file ∷ []) (own, tt) (has, tt)).0)
      (or_cases (is_lasting file.0) (is_among names file.0) among)

  kept_there : (names : List (List ℕ)) (old new : F)
      → KeepsStore shows kept sound moment left_since names old new → (files : List Named)
      → AreKept names files → AreThere shows kept files old → AreThere shows kept files new
  kept_there names old new k [] among there = tt
  kept_there names old new k (file ∷ files) among there = (
    one_there names old new file k among.0 there.0,
    kept_there names old new k files among.1 there.1,
  )

  -- one call after another
  pub then_kept : (names : List (List ℕ)) (old mid new : F)
      → KeepsStore shows kept sound moment left_since names old mid
      → KeepsStore shows kept sound moment left_since names mid new
      → KeepsStore shows kept sound moment left_since names old new
  then_kept names old mid new first second = record {
    journal = λ contents len h. second.journal contents len (first.journal contents len h);
    files = λ files among there. second.files files among (first.files files among there);
    any_moment = λ contents files len h among there.
        joined moment left_since old mid new (HasStore files contents)
        (first.any_moment contents files len h among there)
        (second.any_moment contents files len (first.journal contents len h) among
        (first.files files among there));
    lasting = λ name x lasts shown. second.lasting name x lasts (first.lasting name x lasts shown);
    durable = λ name n lasts durable.
        second.durable name n lasts (first.durable name n lasts durable);
    left = λ files among there.
        joined moment left_since old mid new (HasFiles files) (first.left files among there)
        (second.left files among (kept_there names old mid first files among there));
    absent = λ name lasts none durable.
        joined moment left_since old mid new (λ (left : Left). left name ≡ None)
        (first.absent name lasts none durable)
        (second.absent name lasts (first.lasting name None lasts none)
        (first.durable name 0 lasts durable));
  }
