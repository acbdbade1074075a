-- A journal of events alone that is given a head.
use Rattle.std.proofs.Common.{◌≡◌, ◌⊎◌, inl, inr, ⊎_elim, ℕ, true, List, [], ◌++◌, Some, ap, sym}
use Rattle.std.proofs.Common.{subst, arith, length, Option, subst₂, Vec, ◌∙◌, refl, false, ◌∷◌}
use Rattle.std.specs.Prelude.{◌==◌}
use Rattle.std.specs.declared.alloc.Global.{Global}
use Rattle.data_folder.specs.Folders.{HasFile, Left, LeavesOnly}
use Rattle.data_folder.specs.JournalFile.{journal_name}
use Rattle.data_folder.proofs.Moments.{weaker}
use Rattle.event_journal.specs.Holding.{Stands}
use Rattle.event_journal.specs.Naming.{Spell}
use Rattle.head.specs.Heads.{BlockPart}
use Rattle.head.specs.Worlds.{Event}
use Rattle.head_record.specs.Saved.{Saved}
use Rattle.head_record.specs.Spelling.{head_texts, IsSaved}
use Rattle.head_record.proofs.Worlds.{in_front}
use Rattle.journal.specs.Contents.{contents_in}
use Rattle.journal.specs.Group.{IsJournalText}
use Rattle.journal.specs.Records.{file_of, Recovers}
use Rattle.name_table.specs.Names.{Label}
use Rattle.journal.proofs.Keeping.{itself}
use Rattle.store_folder.specs.Finding.{IsFoundStore}
use Rattle.store_folder.specs.Journals.{IsJournalOf}
use Rattle.store_folder.specs.declared.error.ReadError.{ReadError}
use Rattle.store_folder.specs.declared.error.ReadError.TheVariants as read
use Rattle.store_folder.specs.declared.error.StartError.{StartError}
use Rattle.store_folder.specs.declared.error.StartError.TheVariants as errors
use Rattle.store_folder.specs.Plain.{DeniesAdmitting, DeniesEvents, DeniesPlain, DeniesText}
use Rattle.store_folder.specs.Plain.{HasEither, StandsAlone, begins_plain}
use Rattle.store_folder.specs.Starting.{nothing_saved}

-- what the whole records of a file without a head stand for

plain_stands : (file : List ℕ) (contents : List (List ℕ)) (events : List Event)
    (names : List Label) → Recovers file contents → Spell contents events names
    → Stands [] file events
plain_stands file contents events names r s = record {
  before = tt;
  contents = contents;
  names = names;
  spell = s;
  recovers = r;
}

pub some_contents : (vs : List (Vec ℕ Global)) → (length vs == 0) ≡ false → contents_in vs ≡ []
    → ⊥
some_contents [] some none = absurd (let a : true ≡ false = some in cc)
some_contents (v ∷ vs) some none = absurd cc

-- contents of which there are some spell some events
pub some_events : (contents : List (List ℕ)) (events : List Event) (names : List Label)
    → (contents ≡ [] → ⊥) → Spell contents events names → events ≡ [] → ⊥
some_events [] events names some s none = some refl
some_events (c ∷ cs) events names some s none =
    subst (λ (es : List Event). Spell (c ∷ cs) es names) none s

pub plain_found : (file : List ℕ) (contents : List (List ℕ)) (events : List Event)
    (names : List Label) (len : ℕ) → Recovers file contents → Spell contents events names
    → (events ≡ [] → ⊥) → len ≡ length (file_of contents)
    → (stands : StandsAlone file events) × (len ≡ length (file_of stands.0.contents))
    × (names ≡ stands.0.names)
unfolding plain_stands
plain_found file contents events names len r s some is =
    ((plain_stands file contents events names r s, some), is, refl)

pub plain_headed : (file : List ℕ) (contents : List (List ℕ)) (events : List Event)
    (names : List Label) (text : List ℕ) → Recovers file contents → Spell contents events names
    → (events ≡ [] → ⊥) → IsJournalText (head_texts nothing_saved ++ contents) text
    → (stands : StandsAlone file events) × (names ≡ stands.0.names)
    × IsJournalText (head_texts nothing_saved ++ stands.0.contents) text
unfolding plain_stands
plain_headed file contents events names text r s some is =
    ((plain_stands file contents events names r s, some), refl, is)

-- contents that are refused as events are those of the file
pub events_denied : (file : List ℕ) (contents : List (List ℕ)) (e : ReadError)
    → Recovers file contents → DeniesEvents contents e → DeniesPlain file e
events_denied file contents (read.Journal e) r d = absurd d
events_denied file contents (read.Head refused) r d = (contents, r, d)
events_denied file contents (read.Event refused) r d = (contents, r, d)

-- events that are not accepted are those of the file
denies_text : (file : List ℕ) (events : List Event) (e : StartError) → Stands [] file events
    → DeniesAdmitting events e → DeniesText file e
denies_text file events errors.Medium s d = absurd d
denies_text file events (errors.Journal e) s d =
    subst (λ (x : ReadError). DeniesPlain file x) (sym d) tt
denies_text file events (errors.Block unread) s d = absurd d
denies_text file events (errors.Head e) s d = absurd d
denies_text file events (errors.Event refused) s d = (events, s, d)

pub plain_denied : (file : List ℕ) (contents : List (List ℕ)) (events : List Event)
    (names : List Label) (e : StartError) → Recovers file contents → Spell contents events names
    → DeniesAdmitting events e → DeniesText file e
plain_denied file contents events names e r s d =
    denies_text file events e (plain_stands file contents events names r s) d

-- a text of the contents that stand for the events, after the head
pub record IsHeaded (file text : List ℕ) (events : List Event) (names : List Label)
    : Type 0 where
  pub stands : StandsAlone file events
  pub named : names ≡ stands.0.names
  pub is : IsJournalText (head_texts nothing_saved ++ stands.0.contents) text

-- the text of the events after the head
pub is_journal_of : (file text : List ℕ) (events : List Event) (names : List Label)
    → IsHeaded file text events names → IsSaved nothing_saved
    → IsJournalOf text nothing_saved events
is_journal_of file text events names h saved =
    let all = head_texts nothing_saved ++ h.stands.0.contents in
    record {
      head = saved;
      stands = record {
        before = in_front nothing_saved;
        contents = h.stands.0.contents;
        names = h.stands.0.names;
        spell = h.stands.0.spell;
        recovers = subst (λ (bytes : List ℕ). Recovers bytes all) (sym h.is.whole)
            (itself all h.is.each);
      };
    }

-- what the folder has then
pub found_headed : {F : Type 0} (shows : F → List ℕ → Option (List ℕ) → Type 0)
    (kept : F → List ℕ → ℕ → Type 0) (f : F) (events : Vec Event Global) (names : List Label)
    (len : ℕ) (head : Saved) (parts : List BlockPart) (file text : List ℕ)
    → HasFile shows kept journal_name text f → head ≡ nothing_saved → len ≡ length text
    → IsHeaded file text events.items names → IsSaved nothing_saved → parts ≡ []
    → IsFoundStore shows kept
    (record { head = head; events = events; names = names; len = len; torn = 0 }) parts f
unfolding is_journal_of
found_headed shows kept f events names len head parts file text has is_head is_len h saved none =
    subst₂ (λ (x : Saved) (ps : List BlockPart). IsFoundStore shows kept
    (record { head = x; events = events; names = names; len = len; torn = 0 }) ps f) (sym is_head)
    (sym none) (record {
      file = text;
      has = has;
      journal = record {
        is = is_journal_of file text events.items names h saved;
        counted = is_len ∙ ap (λ (bytes : List ℕ). length bytes) h.is.whole;
        named = h.named;
        torn = omega (arith, is_len);
      };
      blocks = tt;
    })

abbrev IsOneOfTwo : List ℕ → List ℕ → Left → Type 0
IsOneOfTwo file text left = (left journal_name ≡ Some file) ⊎ (left journal_name ≡ Some text)

module _ {F : Type 0} (moment : F → ℕ) (left_since : F → ℕ → Left → Type 0) where
  pub either_left : (old new : F) (file text : List ℕ) (events : List Event) (names : List Label)
      → begins_plain file ≡ true → IsHeaded file text events names
      → LeavesOnly moment left_since old new (IsOneOfTwo file text)
      → LeavesOnly moment left_since old new (HasEither file)
  either_left old new file text events names plain h leaves =
      let all = head_texts nothing_saved ++ h.stands.0.contents in
      weaker moment left_since old new (IsOneOfTwo file text) (HasEither file)
      (λ left p. ⊎_elim (λ e. inl e) (λ e. inr (
        events,
        plain,
        h.stands,
        record {
          contents = h.stands.0.contents;
          names = h.stands.0.names;
          spell = h.stands.0.spell;
          journal = (
            text,
            e,
            subst (λ (bytes : List ℕ). Recovers bytes all) (sym h.is.whole)
                (itself all h.is.each),
          );
        },
      )) p) leaves

  pub as_it_was : (old new : F) (file : List ℕ)
      → LeavesOnly moment left_since old new (λ (left : Left). left journal_name ≡ Some file)
      → LeavesOnly moment left_since old new (HasEither file)
  as_it_was old new file leaves =
      weaker moment left_since old new (λ (left : Left). left journal_name ≡ Some file)
      (HasEither file) (λ left is. inl is) leaves
