-- What a crash leaves, call by call.
use Rattle.std.proofs.Common.{◌≡◌, inl, inr, ⊎_elim, ℕ, ◌≤◌, List, Option, Some, arith, Ok, ap}
use Rattle.std.proofs.Common.{length, ◌∙◌}
use Rattle.std.proofs.lemmas.List.{take_all}
use Rattle.std.proofs.Common.{Err, Result}
use Rattle.std.specs.Prelude.{OnOk}
use Rattle.journal.specs.Media.{MayLeave}
use Rattle.journal.specs.Media as media
use Rattle.data_folder.specs.Folders.{Elapses, KeepsOthers, Left, LeavesOnly}
use Rattle.data_folder.specs.Folders.{HasFile, LeavesOthers, MayGrow, MayLeaveOf, Untouched}
use Rattle.data_folder.specs.JournalFile.{journal_name, JournalLeft}
use Rattle.data_folder.specs.JournalLaws.{StaysBeside, left_now}

module _ {F : Type 0} (shows : F → List ℕ → Option (List ℕ) → Type 0)
    (kept : F → List ℕ → ℕ → Type 0) (left_since : F → ℕ → Left → Type 0) where
  -- time goes on for the journal as for the folder
  pub journal_time : (old new : F) (before now : ℕ) (after : List ℕ → List ℕ) (count : ℕ → ℕ)
      → Elapses before now (left_since old) (left_since new)
      (LeavesOthers shows kept journal_name journal_name old
      (MayGrow shows kept old journal_name after count))
      → (bytes : List ℕ) (n : ℕ) → shows old journal_name (Some bytes) → kept old journal_name n
      → media.Elapses before now (JournalLeft left_since old) (JournalLeft left_since new)
      (MayLeave (count n) (after bytes))
  journal_time old new before now after count e bytes n shown durable = record {
    later = e.later;
    nothing_else = λ t left le had. ⊎_elim (λ past. inl (had.0, past, had.2))
        (λ during. inr (left_now (count n) (after bytes) left (had.0 journal_name) had.2
        (during.1.own bytes n shown durable)))
        (e.nothing_else t had.0 le had.1);
    keeps = λ t left le had. (had.0, e.keeps t had.0 le had.1, had.2);
  }

module _ {F : Type 0} (shows : F → List ℕ → Option (List ℕ) → Type 0)
    (kept : F → List ℕ → ℕ → Type 0) (moment : F → ℕ) (left_since : F → ℕ → Left → Type 0) where
  -- all that is beside the journal stays
  pub journal_beside : (old new : F) (P : Left → Type 0)
      → KeepsOthers shows kept journal_name journal_name old new
      → Elapses (moment old) (moment new) (left_since old) (left_since new)
      (LeavesOthers shows kept journal_name journal_name old P)
      → StaysBeside shows kept moment left_since old new
  journal_beside old new P k time = record {
    later = time.later;
    same = λ name x away shown. k.same name x away away shown;
    durable = λ name n away durable. k.durable name n away away durable;
    keeps = time.keeps;
    before = λ t left le had. ⊎_elim (λ past. inl past)
        (λ during. inr (
          during.0,
          λ name x n away shown durable.
              during.1.others name x n away away shown durable,
        ))
        (time.nothing_else t left le had);
  }

whole_left : (bytes : List ℕ) (found : Option (List ℕ))
    → MayLeaveOf (length bytes) (Some bytes) found → found ≡ Some bytes
whole_left bytes found m =
    m.1 ∙ ap (λ (x : List ℕ). Some x) (m.2.front ∙ take_all m.2.n bytes m.2.kept)

module _ {F : Type 0} (shows : F → List ℕ → Option (List ℕ) → Type 0)
    (kept : F → List ℕ → ℕ → Type 0) (moment : F → ℕ) (left_since : F → ℕ → Left → Type 0) where
  -- where no call was made
  pub untouched : (f : F) → Untouched shows kept moment left_since f f
  untouched f = record {
    all = record { same = λ name x shown. shown; durable = λ name n durable. durable };
    time = record {
      later = omega arith;
      nothing_else = λ t left le had. inl had;
      keeps = λ t left le had. had;
    };
  }

  -- nor by one call more
  pub untouched_on : ((f : F) (t u : ℕ) (left : Left) → t ≤ u → u ≤ moment f → left_since f u left
      → left_since f t left)
      → (old mid new : F) → Untouched shows kept moment left_since old mid
      → Untouched shows kept moment left_since mid new
      → Untouched shows kept moment left_since old new
  untouched_on earlier old mid new first second = record {
    all = record {
      same = λ name x shown. second.all.same name x (first.all.same name x shown);
      durable = λ name n durable. second.all.durable name n (first.all.durable name n durable);
    };
    time = record {
      later = omega (arith, first.time.later, second.time.later);
      nothing_else = λ t left le had. ⊎_elim
          (λ past. ⊎_elim (λ old. inl old)
          (λ now. inr (second.time.keeps (moment old) left first.time.later now.0, now.1))
          (first.time.nothing_else t left le past))
          (λ now. inr (
            earlier new (moment old) (moment mid) left first.time.later second.time.later now.0,
            λ name x n shown durable. now.1 name x n (first.all.same name x shown)
                (first.all.durable name n durable),
          ))
          (second.time.nothing_else t left (omega (arith, le, first.time.later)) had);
      keeps = λ t left le had. second.time.keeps t left (omega (arith, le, first.time.later))
          (first.time.keeps t left le had);
    };
  }

  -- what lies there for good is left, whatever call comes
  pub untouched_left : (old new : F) (name bytes : List ℕ) → HasFile shows kept name bytes old
      → ((left : Left) → left_since old (moment old) left
      → MayLeaveOf (length bytes) (Some bytes) (left name))
      → Untouched shows kept moment left_since old new
      → LeavesOnly moment left_since old new (λ (left : Left). left name ≡ Some bytes)
  untouched_left old new name bytes has now same = record {
    later = same.time.later;
    each = λ left had. whole_left bytes (left name)
        (⊎_elim (λ past. now left past)
        (λ may. may.1 name (Some bytes) (length bytes) has.shown has.durable)
        (same.time.nothing_else (moment old) left (omega arith) had));
    before = λ t left le had. ⊎_elim (λ past. inl past)
        (λ may. inr (whole_left bytes (left name)
        (may.1 name (Some bytes) (length bytes) has.shown has.durable)))
        (same.time.nothing_else t left le had);
  }

module _ {F : Type 0} (shows : F → List ℕ → Option (List ℕ) → Type 0)
    (kept : F → List ℕ → ℕ → Type 0) where
  -- a file was written, and took the place of another
  pub both_kept : (from to : List ℕ) (old mid new : F)
      → KeepsOthers shows kept from from old mid → KeepsOthers shows kept from to mid new
      → KeepsOthers shows kept from to old new
  both_kept from to old mid new first second = record {
    same = λ name x a b shown. second.same name x a b (first.same name x a a shown);
    durable = λ name n a b durable. second.durable name n a b (first.durable name n a a durable);
  }

  pub nothing_changed : (from to : List ℕ) (f : F) → KeepsOthers shows kept from to f f
  nothing_changed from to f = record {
    same = λ name x a b shown. shown;
    durable = λ name n a b durable. durable;
  }

  pub first_kept : (from to : List ℕ) (old new : F) → KeepsOthers shows kept from from old new
      → KeepsOthers shows kept from to old new
  first_kept from to old new first = record {
    same = λ name x a b shown. first.same name x a a shown;
    durable = λ name n a b durable. first.durable name n a a durable;
  }

module _ {F : Type 0} (moment : F → ℕ) (left_since : F → ℕ → Left → Type 0) where
  -- before the first call
  pub started : (old : F) (P : Left → Type 0) → ((left : Left) → left_since old (moment old) left
      → P left) → LeavesOnly moment left_since old old P
  started old P here = record {
    later = omega arith;
    each = here;
    before = λ t left le had. inl had;
  }

  -- what has P has Q
  pub weaker : (old new : F) (P Q : Left → Type 0) → ((left : Left) → P left → Q left)
      → LeavesOnly moment left_since old new P → LeavesOnly moment left_since old new Q
  weaker old new P Q f leaves = record {
    later = leaves.later;
    each = λ left had. f left (leaves.each left had);
    before = λ t left le had. ⊎_elim (λ past. inl past) (λ now. inr (f left now))
        (leaves.before t left le had);
  }

  -- one call more, after which a crash leaves what has P
  pub goes_on : (old mid new : F) (P may_leave : Left → Type 0)
      → LeavesOnly moment left_since old mid P
      → Elapses (moment mid) (moment new) (left_since mid) (left_since new) may_leave
      → ((left : Left) → may_leave left → P left) → LeavesOnly moment left_since old new P
  goes_on old mid new P may_leave so_far time here = record {
    later = omega (arith, so_far.later, time.later);
    each = λ left had. ⊎_elim (so_far.each left) (λ now. here left now.1)
        (time.nothing_else (moment old) left so_far.later had);
    before = λ t left le had. ⊎_elim (so_far.before t left le) (λ now. inr (here left now.1))
        (time.nothing_else t left (omega (arith, le, so_far.later)) had);
  }

  -- one run of calls after another
  pub joined : (old mid new : F) (P : Left → Type 0) → LeavesOnly moment left_since old mid P
      → LeavesOnly moment left_since mid new P → LeavesOnly moment left_since old new P
  joined old mid new P first second = record {
    later = omega (arith, first.later, second.later);
    each = λ left had. ⊎_elim (first.each left) (λ p. p)
        (second.before (moment old) left first.later had);
    before = λ t left le had. ⊎_elim (first.before t left le) (λ p. inr p)
        (second.before t left (omega (arith, le, first.later)) had);
  }

pub on_ok : {A E : Type 0} (r : Result A E) (P Q : Type 0) → (P → Q) → OnOk r P → OnOk r Q
on_ok (Ok x) P Q f p = f p
on_ok (Err e) P Q f p = tt
