-- The records of events.
use Rattle.std.proofs.Common.{◌≡◌, ◌⊎◌, inl, inr, ℕ, List, [], ◌∷◌, ◌++◌, Result, Err, refl, sym}
use Rattle.std.proofs.Common.{ap, subst, ◌∙◌}
use Rattle.std.specs.List.{AllByRecursion}
use Rattle.std.proofs.lemmas.List.{map-append}
use Rattle.head.specs.Worlds.{Event}
use Rattle.event_text.specs.Spelling.{event_text, Spells}
use Rattle.journal.specs.Group.{AreRecords}
use Rattle.journal.specs.Outcome.{IsOfKeeping}
use Rattle.journal.specs.declared.error.JournalError.{JournalError}
use Rattle.journal.specs.declared.error.JournalError.TheVariants as journal
use Rattle.keeper.specs.declared.error.KeepError.{KeepError}
use Rattle.keeper.specs.declared.error.KeepError.TheVariants.{Memory, TooLong, Failed, Closed}
use Rattle.keeper.specs.Errors.{keep_error}
use Rattle.keeper.specs.Together.{IsKept, SpellTogether, texts_of}

texts_last : (events : List Event) (e : Event)
    → texts_of (events ++ e ∷ []) ≡ texts_of events ++ event_text e ∷ []
texts_last events e = map-append event_text events (e ∷ [])

all_last : (events : List Event) (e : Event) → AllByRecursion IsKept events → IsKept e
    → AllByRecursion IsKept (events ++ e ∷ [])
all_last [] e h i = (i, tt)
all_last (d ∷ ds) e h i = (h.0, all_last ds e h.1 i)

-- the record of one event more
pub together_more : (events : List Event) (e : Event) (text old new : List ℕ)
    → SpellTogether old events → Spells text e
    → ((contents : List (List ℕ)) → AreRecords contents old → AreRecords (contents ++ text ∷ []) new)
    → SpellTogether new (events ++ e ∷ [])
together_more events e text old new so_far s more = record {
  are =
      subst (λ (x : List (List ℕ)). AreRecords x new)
      (ap (λ (x : List ℕ). texts_of events ++ x ∷ []) s.text ∙ sym (texts_last events e))
      (more (texts_of events) so_far.are);
  each = all_last events e so_far.each (record { spelled = s.spelled; bounded = s.bounded });
}

-- the refusal of a record

pub of_record : (e : JournalError) (k : KeepError) → k ≡ keep_error e
    → (e ≡ journal.Memory) ⊎ (e ≡ journal.Size) → (k ≡ Memory) ⊎ (k ≡ TooLong)
of_record e k is (inl m) = inl (is ∙ ap keep_error m)
of_record e k is (inr s) = inr (is ∙ ap keep_error s)

abbrev refused : {X : Type 0} → JournalError → Result X JournalError
refused e = Err e

abbrev failed : {X : Type 0} → KeepError → Result X KeepError
failed k = Err k

pub too_long : {X Y A : Type 0} (e : JournalError) (k : KeepError) → k ≡ keep_error e
    → (e ≡ journal.Memory) ⊎ (e ≡ journal.Size) → failed {X = X} k ≡ Err TooLong
    → (refused {X = Y} e ≡ Err journal.Size → A) → A
too_long {X} e k is (inl m) long then =
    absurd (let a : failed {X = X} Memory ≡ Err TooLong =
    ap (λ (x : KeepError). failed {X = X} x) (sym (is ∙ ap keep_error m)) ∙ long in cc)
too_long {X} {Y} e k is (inr s) long then = then (ap (λ (x : JournalError). refused {X = Y} x) s)

-- only a closed journal says so
pub only_closed : (e : JournalError) → keep_error e ≡ Closed → e ≡ journal.Closed
only_closed journal.Memory is = absurd cc
only_closed journal.Size is = absurd cc
only_closed journal.Closed is = refl
only_closed journal.Medium is = absurd cc
only_closed journal.Magic is = absurd cc
only_closed journal.Version is = absurd cc
only_closed (journal.Checksum at) is = absurd cc
only_closed (journal.Length at) is = absurd cc

-- only a journal that is too long says so
pub only_size : (e : JournalError) → keep_error e ≡ TooLong → e ≡ journal.Size
only_size journal.Memory is = absurd cc
only_size journal.Size is = refl
only_size journal.Closed is = absurd cc
only_size journal.Medium is = absurd cc
only_size journal.Magic is = absurd cc
only_size journal.Version is = absurd cc
only_size (journal.Checksum at) is = absurd cc
only_size (journal.Length at) is = absurd cc

-- of the refusals of what is to be kept, only that of a medium that failed says so
pub only_medium : (X : Type 0) (e : JournalError) → IsOfKeeping {X = X} (Err e)
    → keep_error e ≡ Failed → e ≡ journal.Medium
only_medium X journal.Memory other is = absurd cc
only_medium X journal.Size other is = absurd cc
only_medium X journal.Closed other is = absurd cc
only_medium X journal.Medium other is = refl
only_medium X journal.Magic other is = absurd other
only_medium X journal.Version other is = absurd other
only_medium X (journal.Checksum at) other is = absurd other
only_medium X (journal.Length at) other is = absurd other
