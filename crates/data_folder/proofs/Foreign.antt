-- That what is none of the store's stays.
use Rattle.std.proofs.Common.{◌≡◌, ◌≢◌, ℕ, Bool, true, false, List, Option, refl}
use Rattle.std.specs.Prelude.{◌&&◌, not}
use Rattle.std.specs.Str.{bytes_eq}
use Rattle.std.proofs.lemmas.Slice.Eq.{bytes_eq-Decides}
use Rattle.data_folder.specs.Folders.{KeepsAll, KeepsOthers, Left}
use Rattle.data_folder.specs.JournalFile.{journal_name, next_name}
use Rattle.data_folder.specs.JournalLaws.{StaysBeside}
use Rattle.data_folder.specs.Sweeping.{KeepsForeign, KeepsStore, is_foreign, is_lasting}
use Rattle.data_folder.specs.Sweeping.{is_of_block}

and_left : (a b : Bool) → (a && b) ≡ true → a ≡ true
and_left true b h = refl
and_left false b h = absurd cc

and_right : (a b : Bool) → (a && b) ≡ true → b ≡ true
and_right true b h = h
and_right false b h = absurd cc

not_both : {A : Type 0} (b : Bool) → b ≡ true → not b ≡ true → A
not_both true t f = absurd cc
not_both false t f = absurd cc

-- a foreign name is lasting, and is not the journal's nor that of the one in the making

pub lasts : (name : List ℕ) → is_foreign name ≡ true → is_lasting name ≡ true
lasts name h = and_left (is_lasting name) (not (bytes_eq name journal_name)) h

pub not_journal : (name : List ℕ) → is_foreign name ≡ true → name ≢ journal_name
not_journal name h is =
    not_both (bytes_eq name journal_name) ((bytes_eq-Decides name journal_name).1 is)
    (and_right (is_lasting name) (not (bytes_eq name journal_name)) h)

pub not_next : (name : List ℕ) → is_foreign name ≡ true → name ≢ next_name
not_next name h is =
    not_both (bytes_eq name next_name) ((bytes_eq-Decides name next_name).1 is)
    (and_right (not (is_of_block name)) (not (bytes_eq name next_name)) (lasts name h))

module _ {F : Type 0} (shows : F → List ℕ → Option (List ℕ) → Type 0)
    (kept : F → List ℕ → ℕ → Type 0) where
  -- where nothing was done
  pub foreign_rests : (f : F) → KeepsForeign shows kept f f
  foreign_rests f = record {
    same = λ name x own shown. shown;
    durable = λ name n own durable. durable;
  }

  -- one call after another
  pub foreign_then : (old mid new : F) → KeepsForeign shows kept old mid
      → KeepsForeign shows kept mid new → KeepsForeign shows kept old new
  foreign_then old mid new first second = record {
    same = λ name x own shown. second.same name x own (first.same name x own shown);
    durable = λ name n own durable. second.durable name n own (first.durable name n own durable);
  }

  -- where a journal was begun anew
  pub foreign_beside : (old new : F) → KeepsOthers shows kept next_name journal_name old new
      → KeepsForeign shows kept old new
  foreign_beside old new k = record {
    same = λ name x own shown. k.same name x (not_next name own) (not_journal name own) shown;
    durable = λ name n own durable.
        k.durable name n (not_next name own) (not_journal name own) durable;
  }

  -- where nothing was written
  pub foreign_all : (old new : F) → KeepsAll shows kept old new → KeepsForeign shows kept old new
  foreign_all old new k = record {
    same = λ name x own shown. k.same name x shown;
    durable = λ name n own durable. k.durable name n durable;
  }

module _ {F : Type 0} (shows : F → List ℕ → Option (List ℕ) → Type 0)
    (kept : F → List ℕ → ℕ → Type 0) (sound : F → Bool) (moment : F → ℕ)
    (left_since : F → ℕ → Left → Type 0) where
  -- where files came or went beside a store
  pub foreign_kept : (names : List (List ℕ)) (old new : F)
      → KeepsStore shows kept sound moment left_since names old new → KeepsForeign shows kept old new
  foreign_kept names old new k = record {
    same = λ name x own shown. k.lasting name x (lasts name own) shown;
    durable = λ name n own durable. k.durable name n (lasts name own) durable;
  }

module _ {F : Type 0} (shows : F → List ℕ → Option (List ℕ) → Type 0)
    (kept : F → List ℕ → ℕ → Type 0) (moment : F → ℕ) (left_since : F → ℕ → Left → Type 0) where
  -- where a journal was written to
  pub foreign_stays : (old new : F) → StaysBeside shows kept moment left_since old new
      → KeepsForeign shows kept old new
  foreign_stays old new k = record {
    same = λ name x own shown. k.same name x (not_journal name own) shown;
    durable = λ name n own durable. k.durable name n (not_journal name own) durable;
  }

  -- and all but that journal, and the one in the making
  pub others_beside : (old new : F) → StaysBeside shows kept moment left_since old new
      → KeepsOthers shows kept next_name journal_name old new
  others_beside old new k = record {
    same = λ name x a b shown. k.same name x b shown;
    durable = λ name n a b durable. k.durable name n b durable;
  }
