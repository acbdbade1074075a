-- What was written of the directories so far, and of one more.
use Rattle.std.proofs.Common.{◌≡◌, ℕ, ◌+◌, ◌<◌, List, [], ◌∷◌, ◌++◌, Option, None, Some, Bool, true}
use Rattle.std.proofs.Common.{false, refl, sym, ap, subst, ◌∙◌, take, drop, length, get_or, map}
use Rattle.std.proofs.Common.{append_assoc, Bor}
use Rattle.std.specs.Prelude.{◌||◌, if◌then◌else◌}
use Rattle.std.specs.List.{AllByRecursion, flat_map, list_any}
use Rattle.std.specs.Io.KnownBytes.{Appends, Keeps}
use Rattle.std.proofs.lemmas.List.{append-nil, map-append, take-append-drop}
use Rattle.std.proofs.lemmas.List.Folds.{list_any-append}
use Rattle.std.proofs.lemmas.Grind.{flat_map-append}
use Rattle.commands.specs.Checking.{Judged, IsJudgedAt, IsChecked, IsCheckFault, IsCutAt}
use Rattle.commands.specs.Checking.{judgement_line, is_refused, outcome_of}
use Rattle.commands.specs.Reading.{Host, IsDirectoryFault, paths_of}
use Rattle.commands.proofs.Paths.{paths_of_more, parts_of_paths}
use Rattle.commands.specs.Selecting.{KeepsAt}
use Rattle.commands.specs.declared.fault.Fault.{Fault}
use Rattle.commands.specs.declared.fault.Fault.TheVariants as fault
use Rattle.commands.specs.declared.judgement.Judgement.{Judgement}
use Rattle.commands.specs.declared.check.Outcome.{Outcome}
use Rattle.commands.specs.declared.check.Outcome.TheVariants.{Done, Refused}

-- what is appended after what was appended
pub appends_on : (old mid new : Option (List ℕ)) (first next : List ℕ) → Appends old mid first
    → Appends mid new next → Appends old new (first ++ next)
appends_on None mid new first next a b = tt
appends_on (Some xs) None new first next a b = absurd a
appends_on (Some xs) (Some ys) None first next a b = absurd b
appends_on (Some xs) (Some ys) (Some zs) first next a b =
    b ∙ ap (λ (l : List ℕ). l ++ next) a ∙ append_assoc xs first next

-- nothing appended
pub appends_none : (old : Option (List ℕ)) → Appends old old []
appends_none None = tt
appends_none (Some xs) = sym (append-nil xs)

-- what is kept after what was appended
pub kept_on : (old mid new : Option (List ℕ)) (bytes : List ℕ) → Appends old mid bytes
    → Keeps mid new → Appends old new bytes
kept_on None mid new bytes came kept = tt
kept_on (Some xs) None new bytes came kept = absurd came
kept_on (Some xs) (Some ys) None bytes came kept = absurd kept
kept_on (Some xs) (Some ys) (Some zs) bytes came kept = kept ∙ came

All_one_more : {A : Type 0} (P : A → Type 0) (xs : List A) (x : A) → AllByRecursion P xs → P x
    → AllByRecursion P (xs ++ x ∷ [])
All_one_more P [] x all one = (one, tt)
All_one_more P (y ∷ ys) x all one = (all.0, All_one_more P ys x all.1 one)

outcome_by : (some one : Bool) → (if (some || (one || false)) then Refused else Done)
    ≡ (if one then Refused else (if some then Refused else Done))
outcome_by true true = refl
outcome_by true false = refl
outcome_by false true = refl
outcome_by false false = refl

outcome_of_more : (judged : List Judged) (directory : List ℕ) (judgement : Judgement)
    → outcome_of (judged ++ (directory, judgement) ∷ [])
    ≡ (if is_refused judgement then Refused else outcome_of judged)
outcome_of_more judged directory judgement =
    ap (λ (b : Bool). if b then Refused else Done)
    (list_any-append (λ (j : Judged). is_refused j.1) judged ((directory, judgement) ∷ []))
    ∙ outcome_by (list_any (λ (j : Judged). is_refused j.1) judged) (is_refused judgement)

-- no directory was checked
pub none_checked : (reads : Host) (old : Option (List ℕ)) → IsChecked reads [] old old Done
none_checked reads old = record {
  judged = [];
  order = refl;
  each = tt;
  written = appends_none old;
  outcome_is = refl;
}

-- one more directory was checked
pub one_more_checked : (reads : Host) (directories : List (List ℕ)) (directory : List ℕ)
    (old mid new : Option (List ℕ)) (outcome : Outcome) (judgement : Judgement)
    → IsChecked reads directories old mid outcome → IsJudgedAt reads directory judgement
    → Appends mid new (judgement_line directory judgement)
    → IsChecked reads (directories ++ directory ∷ []) old new (if is_refused judgement
    then Refused else outcome)
one_more_checked reads directories directory old mid new outcome judgement before one line =
    record {
      judged = before.judged ++ (directory, judgement) ∷ [];
      order =
          map-append (λ (j : Judged). j.0) before.judged ((directory, judgement) ∷ [])
          ∙ ap (λ (l : List (List ℕ)). l ++ directory ∷ []) before.order;
      each =
          All_one_more (λ (j : Judged). IsJudgedAt reads j.0 j.1) before.judged
          (directory, judgement) before.each one;
      written = subst (λ (bytes : List ℕ). Appends old new bytes)
          (ap (λ (l : List ℕ). flat_map (λ (j : Judged). judgement_line j.0 j.1) before.judged ++ l)
          (sym (append-nil (judgement_line directory judgement)))
          ∙ sym (flat_map-append (λ (j : Judged). judgement_line j.0 j.1) before.judged ((
            directory,
            judgement,
          ) ∷ [])))
          (appends_on old mid new _ _ before.written line);
      outcome_is =
          ap (λ (o : Outcome). if is_refused judgement then Refused else o) before.outcome_is
          ∙ sym (outcome_of_more before.judged directory judgement);
    }

-- the next of the texts was checked
pub next_checked : (reads : Host) (texts : List (Bor (List ℕ))) (i : ℕ) (d : Bor (List ℕ))
    (old mid new : Option (List ℕ)) (outcome next : Outcome) (judgement : Judgement)
    → i < length texts → IsChecked reads (take i (paths_of texts)) old mid outcome
    → IsJudgedAt reads (get_or texts i d).now judgement
    → Appends mid new (judgement_line (get_or texts i d).now judgement)
    → next ≡ (if is_refused judgement then Refused else outcome)
    → IsChecked reads (take (i + 1) (paths_of texts)) old new next
next_checked reads texts i d old mid new outcome next judgement h before one line is =
    rw (is, paths_of_more texts i d h) (one_more_checked reads (take i (paths_of texts))
    (get_or texts i d).now old mid new outcome judgement before one line)

kept_checked : (reads : Host) (directories : List (List ℕ)) (old mid new : Option (List ℕ))
    (outcome : Outcome) → IsChecked reads directories old mid outcome → Keeps mid new
    → IsChecked reads directories old new outcome
kept_checked reads directories old mid new outcome before kept = record {
  judged = before.judged;
  order = before.order;
  each = before.each;
  written = kept_on old mid new _ before.written kept;
  outcome_is = before.outcome_is;
}

-- the next of the texts was not checked
pub stopped : (reads : Host) (texts : List (Bor (List ℕ))) (i : ℕ) (d : Bor (List ℕ))
    (old mid new : Option (List ℕ)) (outcome : Outcome) (why : Fault)
    → i < length texts → IsChecked reads (take i (paths_of texts)) old mid outcome
    → IsDirectoryFault reads (get_or texts i d).now why → KeepsAt why mid new
    → IsCutAt reads (get_or texts i d).now mid new why
    → IsCheckFault reads (paths_of texts) old new why
stopped reads texts i d old mid new outcome (fault.CannotRead path) h before unread kept cut =
    record {
      before = take i (paths_of texts);
      directory = (get_or texts i d).now;
      after = drop (i + 1) (paths_of texts);
      order = parts_of_paths texts i d h;
      outcome = outcome;
      checked = kept_checked reads (take i (paths_of texts)) old mid new outcome before kept;
      unread = unread;
    }
stopped reads texts i d old mid new outcome fault.Memory h before unread kept cut = record {
  before = take i (paths_of texts);
  rest = drop i (paths_of texts);
  order = sym (take-append-drop i (paths_of texts));
  outcome = outcome;
  checked = kept_checked reads (take i (paths_of texts)) old mid new outcome before kept;
}
stopped reads texts i d old mid new outcome fault.CannotWrite h before unread kept cut =
    let directory = (get_or texts i d).now in
    let one : Judged = (directory, cut.0) in
    let lines = flat_map (λ (j : Judged). judgement_line j.0 j.1) in
    record {
      judged = before.judged ++ one ∷ [];
      rest = drop (i + 1) (paths_of texts);
      order = parts_of_paths texts i d h
          ∙ ap (λ (l : List (List ℕ)). l ++ directory ∷ drop (i + 1) (paths_of texts))
          (sym before.order)
          ∙ sym (append_assoc (map (λ (j : Judged). j.0) before.judged) (directory ∷ [])
          (drop (i + 1) (paths_of texts)))
          ∙ ap (λ (l : List (List ℕ)). l ++ drop (i + 1) (paths_of texts))
          (sym (map-append (λ (j : Judged). j.0) before.judged (one ∷ [])));
      each =
          All_one_more (λ (j : Judged). IsJudgedAt reads j.0 j.1) before.judged
          one before.each cut.1;
      written = record {
        front = lines before.judged ++ cut.2.front;
        rest = cut.2.rest;
        parts = flat_map-append (λ (j : Judged). judgement_line j.0 j.1) before.judged (one ∷ [])
            ∙ ap (λ (l : List ℕ). lines before.judged ++ l)
            (append-nil (judgement_line directory cut.0) ∙ cut.2.parts)
            ∙ sym (append_assoc (lines before.judged) cut.2.front cut.2.rest);
        appended =
            appends_on old mid new (lines before.judged) cut.2.front before.written cut.2.appended;
      };
    }
stopped reads texts i d old mid new outcome (fault.Words error) h before unread kept cut =
    absurd unread
stopped reads texts i d old mid new outcome (fault.CannotWriteAt path) h before unread kept cut =
    absurd unread
stopped reads texts i d old mid new outcome (fault.Locked folder holder) h before unread kept cut =
    absurd unread
stopped reads texts i d old mid new outcome (fault.CannotListen port) h before unread kept cut =
    absurd unread
stopped reads texts i d old mid new outcome fault.NoListener h before unread kept cut =
    absurd unread
stopped reads texts i d old mid new outcome fault.NoThread h before unread kept cut =
    absurd unread
stopped reads texts i d old mid new outcome (fault.Refused refusal) h before unread kept cut =
    absurd unread
