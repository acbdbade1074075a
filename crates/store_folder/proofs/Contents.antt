-- Contents that begin with a head.
use Rattle.std.proofs.Common.{◌≡◌, ℕ, zero, suc, ◌≤◌, ◌-◌, List, [], ◌∷◌, ◌++◌, length, drop}
use Rattle.std.proofs.Common.{Vec, Result, Ok, Err, refl, sym, ap, subst, ◌∙◌, arith}
use Rattle.std.specs.Prelude.{◌↔◌, IfOk}
use Rattle.std.specs.declared.alloc.Global.{Global}
use Rattle.std.proofs.lemmas.List.{length-append, length-map}
use Rattle.head.specs.Worlds.{Event}
use Rattle.event_journal.specs.declared.events.Refused.{Refused}
use Rattle.event_journal.specs.Naming.{Spell}
use Rattle.event_journal.specs.Outcome.{RefusesAt}
use Rattle.head_record.specs.Outcome.{Begins as BeginsWith}
use Rattle.head_record.specs.Saved.{Saved}
use Rattle.head_record.specs.Spelling.{head_texts}
use Rattle.head_record.proofs.Worlds.{in_front}
use Rattle.journal.specs.Contents.{contents_in}
use Rattle.journal.specs.declared.error.JournalError.{JournalError}
use Rattle.journal.specs.declared.error.JournalError.TheVariants as journal
use Rattle.journal.specs.Outcome.{IsOfReading}
use Rattle.journal.specs.Records.{Begins, BeginsOtherwise, HasBadLength, IsDamaged, Recovers, Splits}
use Rattle.journal.specs.Records.{file_of, header, magic}
use Rattle.name_table.specs.Names.{Label}
use Rattle.store_folder.specs.declared.error.ReadError.{ReadError}
use Rattle.store_folder.specs.declared.error.ReadError.TheVariants as errors
use Rattle.store_folder.specs.Journals.{AreContents, DeniesContents, DeniesJournal, DeniesRecords}
use Rattle.store_folder.specs.Journals.{GivesContents, IsFoundJournal, IsJournalOf}
use Rattle.store_folder.specs.declared.journals.FoundJournal.{FoundJournal}

abbrev Bytes : Type 0
Bytes = Vec ℕ Global

dropped : (a b : List (List ℕ)) → drop (length a) (a ++ b) ≡ b
dropped [] b = refl
dropped (x ∷ a) b = dropped a b

left_over : (n : ℕ) (vs : List Bytes) → contents_in (drop n vs) ≡ drop n (contents_in vs)
left_over zero vs = refl
left_over (suc n) [] = refl
left_over (suc n) (v ∷ vs) = left_over n vs

-- a head that stands in front is no longer than the contents
pub within : (vs : List Bytes) (saved : Saved) (count : ℕ) → BeginsWith (contents_in vs) saved count
    → count ≤ length vs
within vs saved count b =
    omega (
      arith,
      b.all,
      ap length b.front,
      length-append (head_texts saved) (drop count (contents_in vs)),
      length-map vs (λ (v : Bytes). v.items),
    )

-- what stands behind it are the events
pub found_after : (vs after : List Bytes) (saved : Saved) (count : ℕ) (events : List Event)
    (names : List Label) → BeginsWith (contents_in vs) saved count → after ≡ drop count vs
    → Spell (contents_in after) events names → AreContents (contents_in vs) saved events names
found_after vs after saved count events names b is s = record {
  head = b.fits;
  after = contents_in after;
  spell = s;
  whole = b.front
      ∙ ap (λ (x : List (List ℕ)). head_texts saved ++ x)
      (sym (left_over count vs) ∙ ap contents_in (sym is));
}

pub spell_after : (vs after : List Bytes) (saved : Saved) (count : ℕ) (events : List Event)
    (names : List Label) → BeginsWith (contents_in vs) saved count → after ≡ drop count vs
    → AreContents (contents_in vs) saved events names → Spell (contents_in after) events names
spell_after vs after saved count events names b is h =
    let same : contents_in after ≡ h.after =
    ap contents_in is
    ∙ (left_over count vs
    ∙ (ap (λ (n : ℕ). drop n (contents_in vs)) b.all
    ∙ (ap (drop (length (head_texts saved))) h.whole
    ∙ dropped (head_texts saved) h.after))) in
    subst (λ (x : List (List ℕ)). Spell x events names) (sym same) h.spell

-- the same for another name of the head
pub renamed : (contents : List (List ℕ)) (head saved : Saved) (events : List Event)
    (names : List Label) (result : Result (Saved × Vec Event Global) ReadError) → head ≡ saved
    → AreContents contents saved events names
    → (AreContents contents head events names → GivesContents head events result)
    → GivesContents saved events result
renamed contents head saved events names result is h f =
    subst (λ (x : Saved). GivesContents x events result) is
    (f (subst (λ (x : Saved). AreContents contents x events names) (sym is) h))

-- a file and its whole records

journal_found : (file : List ℕ) (contents : List (List ℕ)) (j : FoundJournal)
    → Recovers file contents → AreContents contents j.head j.events.items j.names
    → j.len ≡ length (file_of contents) → j.torn ≡ length file - j.len → IsFoundJournal file j
journal_found file contents j r h len torn = record {
  is = record {
    head = h.head;
    stands = record {
      before = in_front j.head;
      contents = h.after;
      names = j.names;
      spell = h.spell;
      recovers = subst (λ (x : List (List ℕ)). Recovers file x) h.whole r;
    };
  };
  counted = len ∙ ap (λ (x : List (List ℕ)). length (file_of x)) h.whole;
  named = refl;
  torn = torn;
}

pub journal_given : (file : List ℕ) (contents : List (List ℕ)) (len : ℕ)
    (r : Result FoundJournal ReadError) → Recovers file contents
    → len ≡ length (file_of contents)
    → IfOk r (λ j. AreContents contents j.head j.events.items j.names)
    → IfOk r (λ j. j.len ≡ len) → IfOk r (λ j. j.torn ≡ length file - len)
    → IfOk r (λ j. IsFoundJournal file j)
journal_given file contents len (Ok j) found counted h is torn =
    journal_found file contents j found h (is ∙ counted)
    (torn ∙ ap (λ (n : ℕ). length file - n) (sym is))
journal_given file contents len (Err e) found counted h is torn = tt

pub contents_of : (file : List ℕ) (contents : List (List ℕ)) (saved : Saved) (events : List Event)
    (h : IsJournalOf file saved events) → contents ≡ head_texts saved ++ h.stands.contents
    → AreContents contents saved events h.stands.names
contents_of file contents saved events h is = record {
  head = h.head;
  after = h.stands.contents;
  spell = h.stands.spell;
  whole = is;
}

-- what stands behind the head is no event
pub denied_after : (vs after : List Bytes) (saved : Saved) (count : ℕ) (refused : Refused)
    → BeginsWith (contents_in vs) saved count → after ≡ drop count vs
    → RefusesAt (contents_in after) refused.at refused.error
    → DeniesContents (contents_in vs) (errors.Event refused)
denied_after vs after saved count refused b is r = (
  saved,
  contents_in after,
  b.fits,
  b.front
      ∙ ap (λ (x : List (List ℕ)). head_texts saved ++ x)
      (sym (left_over count vs) ∙ ap contents_in (sym is)),
  r,
)

-- a refusal of contents is one of the file that they stand in
pub denies_journal : (file : List ℕ) (contents : List (List ℕ)) (e : ReadError)
    → Recovers file contents → DeniesContents contents e → DeniesJournal file e
denies_journal file contents (errors.Journal e) r d = absurd d
denies_journal file contents (errors.Head refused) r d = (contents, r, d)
denies_journal file contents (errors.Event refused) r d = (contents, r, d)

abbrev refuses : {X : Type 0} → JournalError → Result X JournalError
refuses e = Err e

pub denies_records : {X : Type 0} (file : List ℕ) (e : JournalError)
    → ((at : ℕ) → refuses {X = X} e ≡ Err (journal.Checksum at)
    → (contents : List (List ℕ)) × Splits IsDamaged file contents
    × (at ≡ length (file_of contents)))
    → ((at : ℕ) → refuses {X = X} e ≡ Err (journal.Length at)
    → (contents : List (List ℕ)) × Splits HasBadLength file contents
    × (at ≡ length (file_of contents)))
    → (refuses {X = X} e ≡ Err journal.Magic ↔ BeginsOtherwise magic file)
    → (refuses {X = X} e ≡ Err journal.Version
    ↔ (BeginsOtherwise header file × Begins magic file))
    → IsOfReading (refuses {X = X} e) → DeniesRecords file e
denies_records file journal.Memory sum len m v reading = tt
denies_records file journal.Magic sum len m v reading = m.0 refl
denies_records file journal.Version sum len m v reading = v.0 refl
denies_records file (journal.Checksum at) sum len m v reading = sum at refl
denies_records file (journal.Length at) sum len m v reading = len at refl
denies_records file journal.Size sum len m v reading = absurd reading
denies_records file journal.Medium sum len m v reading = absurd reading
denies_records file journal.Closed sum len m v reading = absurd reading
