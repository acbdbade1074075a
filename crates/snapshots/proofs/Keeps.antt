-- Events are kept, and then published.
use Rattle.std.proofs.Common.{◌≡◌, ◌⊎◌, ℕ, zero, suc, Result, Ok, Err, OnOk, is_ok, if◌then◌else◌, Bool, true, false, List, [], ◌∷◌, ◌++◌, take, inl, inr, refl, sym, ap, subst, ◌∙◌, append_assoc}
use Rattle.std.proofs.lemmas.List.{append-nil, map-append, map_push}
use Rattle.std.specs.List.{AllByRecursion}
use Rattle.head.specs.Heads.{SnapshotParts, world_of}
use Rattle.head.specs.Refusals.{Refusal}
use Rattle.head.specs.Worlds.{Event, World, replayed, replayed_from, stepped}
use Rattle.head.specs.declared.error.CommitError.{CommitError}
use Rattle.head.specs.declared.error.CommitError.TheVariants.{OutOfBounds, OutOfOrder, Duplicate, Limit, CutTooLow, TooManyParts, Seat, Journal, Memory}
use Rattle.event_text.specs.Spelling.{event_text}
use Rattle.journal.proofs.Keeping.{record_more}
use Rattle.journal.proofs.Loops.{records_one}
use Rattle.journal.specs.Group.{AreRecords}
use Rattle.journal.specs.Records.{records_of}
use Rattle.keeper.specs.Finding.{AreAllAndSome, LeavesEvents}
use Rattle.keeper.specs.Together.{IsKept, SpellTogether, texts_of}
use Rattle.keeper.specs.declared.error.KeepError.{KeepError}
use Rattle.keeper.specs.declared.error.KeepError.TheVariants as keep
use Rattle.keeper.proofs.Finds.{wider}
use Rattle.snapshots.specs.declared.entry.Entry.{Entry}
use Rattle.snapshots.specs.Keeping.{keep_refusal, kept_of, AreAllOrNone, IsOfAllKept, IsOfKeeping, IsRecordFor, OpensAsKept, SpellAll}
use Rattle.snapshots.specs.Replays.{events_in, IsAfter, IsOfStore}

-- events more are to be kept
pub kept_more : (before : List Event) (entries more : List Entry) → kept_of before (entries ++ more) ≡ kept_of before entries ++ events_in more
kept_more before entries more =
    ap (λ (es : List Event). before ++ es) (map-append (λ (x : Entry). x.event) entries more)
    ∙ sym (append_assoc before (events_in entries) (events_in more))

pub nothing_spelled : SpellTogether [] []
unfolding records_of
nothing_spelled = record { are = record { each = tt; whole = refl }; each = tt }

replayed_further : (r : Result World Refusal) (before more : List Event) (w : World) → replayed_from r before ≡ Ok w → replayed_from r (before ++ more) ≡ replayed w more
replayed_further r [] more w is = ap (λ (s : Result World Refusal). replayed_from s more) is
replayed_further (Err x) (e ∷ es) more w is = absurd (cc is)
replayed_further (Ok v) (e ∷ es) more w is = replayed_further (stepped v e) es more w is

-- the world that is published is that of all that is kept
pub of_all_kept : (idle : Bool) (first : World) (before : List Event) (opening : SnapshotParts) (entries : List Entry) (s : SnapshotParts)
    → OpensAsKept idle first before opening → IsAfter opening entries s → IsOfAllKept idle first before entries s
of_all_kept idle first before opening entries s opens after = λ keeps.
    replayed_further (Ok first) before (events_in entries) (world_of opening) (opens keeps) ∙ after.replay

-- a refusal is the journal's or memory's
pub of_keeping : (e : KeepError) → IsOfKeeping (keep_refusal e)
of_keeping keep.Memory = tt
of_keeping keep.TooLong = tt
of_keeping keep.Failed = tt
of_keeping keep.Closed = tt

abbrev refused : {X : Type 0} → KeepError → Result X KeepError
refused e = Err e

-- the journal's refusal has the cause that the keeper's has
pub hindered : {X A B C : Type 0} (e : KeepError) (r : CommitError) → r ≡ keep_refusal e → (refused {X = X} e ≡ Err keep.Closed → A)
    → (refused {X = X} e ≡ Err keep.TooLong → B) → (refused {X = X} e ≡ Err keep.Failed → C) → r ≡ Journal → A ⊎ (B ⊎ C)
hindered keep.Memory r is a b c same = absurd (let x : Memory ≡ Journal = sym is ∙ same in cc)
hindered keep.TooLong r is a b c same = inr (inl (b refl))
hindered keep.Failed r is a b c same = inr (inr (c refl))
hindered keep.Closed r is a b c same = inl (a refl)

pub of_store : (e : CommitError) → IsOfKeeping e → IsOfStore e
of_store (OutOfBounds at) is = absurd is
of_store (OutOfOrder at) is = absurd is
of_store (Duplicate at) is = absurd is
of_store Limit is = absurd is
of_store CutTooLow is = absurd is
of_store TooManyParts is = absurd is
of_store Seat is = absurd is
of_store Journal is = tt
of_store Memory is = tt

pub no_seat : (e : CommitError) → IsOfKeeping e → e ≡ Seat → ⊥
no_seat e is same = subst IsOfKeeping same is

-- what the bytes spell together: all of these events, or none
pub spelled_by : (idle : Bool) (more : List Event) (bytes : List ℕ) → SpellAll idle more bytes → (few : List Event) × AreAllOrNone idle more few × SpellTogether bytes few
spelled_by true more bytes none = ([], inr (refl, refl), subst (λ (xs : List ℕ). SpellTogether xs []) (sym none) nothing_spelled)
spelled_by false more bytes spells = (more, inl refl, spells)

-- nothing is spelled by nothing
pub spell_nothing : (idle : Bool) → SpellAll idle [] []
spell_nothing true = refl
spell_nothing false = nothing_spelled

all_last : (events : List Event) (e : Event) → AllByRecursion IsKept events → IsKept e → AllByRecursion IsKept (events ++ e ∷ [])
all_last [] e h i = (i, tt)
all_last (d ∷ ds) e h i = (h.0, all_last ds e h.1 i)

-- the record of one event after those of others
pub together_last : (events : List Event) (e : Event) (old record_is new : List ℕ) → SpellTogether old events → SpellTogether record_is (e ∷ []) → new ≡ old ++ record_is
    → SpellTogether new (events ++ e ∷ [])
together_last events e old record_is new so_far one is = record {
  are = subst (λ (x : List (List ℕ)). AreRecords x new) (sym (map_push event_text events e))
      (record_more (texts_of events) (event_text e) old new one.are.each.0 so_far.are (is ∙ ap (λ (xs : List ℕ). old ++ xs) (one.are.whole ∙ records_one (event_text e))));
  each = all_last events e so_far.each one.each.0;
}

record_of_one : (e : Event) (bytes : List ℕ) → IsRecordFor false e bytes → SpellTogether bytes (e ∷ [])
record_of_one e bytes (inl spells) = spells
record_of_one e bytes (inr none) = absurd (cc (none.0))

-- by what keepers of this kind do
pub spell_kept : (idle : Bool) (old bytes new : List ℕ) → idle ≡ false → new ≡ old ++ bytes → (events : List Event) (event : Event) → SpellAll idle events old → IsRecordFor idle event bytes
    → SpellAll idle (events ++ event ∷ []) new
spell_kept true old bytes new keeps is events event so_far one = absurd (cc keeps)
spell_kept false old bytes new keeps is events event so_far one = together_last events event old bytes new so_far (record_of_one event bytes one) is

pub spell_idle : (idle : Bool) (old new : List ℕ) → idle ≡ true → new ≡ old → (events : List Event) (event : Event) → SpellAll idle events old → SpellAll idle (events ++ event ∷ []) new
spell_idle true old new keeps is events event so_far = is ∙ so_far
spell_idle false old new keeps is events event so_far = absurd (cc keeps)

pub spell_result : {X E : Type 0} (r : Result X E) (idle : Bool) (old bytes new : List ℕ) → idle ≡ false → new ≡ (if is_ok r then old ++ bytes else old)
    → OnOk r ((events : List Event) (event : Event) → SpellAll idle events old → IsRecordFor idle event bytes → SpellAll idle (events ++ event ∷ []) new)
spell_result (Ok x) idle old bytes new keeps is = λ events event so_far one. spell_kept idle old bytes new keeps is events event so_far one
spell_result (Err x) idle old bytes new keeps is = tt

pub held_more : {K : Type 0} (idle : Bool) (holds : K → List Event → Type 0) (old new : K) (bytes : List ℕ)
    → (idle ≡ true → (k : K) (events : List Event) → holds k events)
    → ((events more : List Event) → holds old events → SpellTogether bytes more → holds new (events ++ more))
    → (events more : List Event) → holds old events → SpellAll idle more bytes → holds new (events ++ more)
held_more true holds old new bytes any f events more held none = any refl new (events ++ more)
held_more false holds old new bytes any f events more held spells = f events more held spells

none_taken : (few : ℕ) → take {A = Event} few [] ≡ []
none_taken zero = refl
none_taken (suc few) = refl

some_or_none : (events more found : List Event) → AreAllAndSome events [] found → AreAllAndSome events more found
some_or_none events more found some = (0, some.1 ∙ ap (λ (xs : List Event). events ++ xs) (none_taken some.0))

-- these, or none
pub at_most : (idle : Bool) (events more few found : List Event) → AreAllOrNone idle more few → AreAllAndSome events few found → AreAllAndSome events more found
at_most idle events more few found (inl is) some = subst (λ (xs : List Event). AreAllAndSome events xs found) is some
at_most idle events more few found (inr none) some =
    some_or_none events more found (subst (λ (xs : List Event). AreAllAndSome events xs found) none.1 some)

pub last_more : (idle : Bool) (P : List Event → Type 0) (bytes : List ℕ) (more : List Event)
    → ((few : List Event) → SpellTogether bytes few → P few) → SpellAll idle more bytes
    → (few : List Event) × AreAllOrNone idle more few × P few
last_more idle P bytes more f all = let s = spelled_by idle more bytes all in (s.0, s.1, f s.0 s.2)

-- what keepers of this kind may keep, by what they are handed
pub may_be_handed : {K : Type 0} (idle : Bool) (holds : K → List Event → Type 0) (may : List Event → Type 0) (keeper : K) (bytes : List ℕ)
    → (idle ≡ true → (k : K) (events : List Event) → holds k events)
    → (events more : List Event) → holds keeper events → SpellAll idle more bytes → may (events ++ more)
    → (all few : List Event) × holds keeper all × SpellTogether bytes few × may (all ++ few)
may_be_handed true holds may keeper bytes any events more held none is = (
  events ++ more,
  [],
  any refl keeper (events ++ more),
  subst (λ (xs : List ℕ). SpellTogether xs []) (sym none) nothing_spelled,
  subst may (sym (append-nil (events ++ more))) is,
)
may_be_handed false holds may keeper bytes any events more held spells is = (events, more, held, spells, is)

-- what stays of all or none
pub stays_all : {S : Type 0} (idle : Bool) (stays : S → List Event → Type 0) (token : S) (events more few : List Event)
    → (idle ≡ true → (s : S) (events : List Event) → stays s events) → AreAllOrNone idle more few
    → stays token (events ++ few) → stays token (events ++ more)
stays_all idle stays token events more few any (inl is) stay = subst (λ (xs : List Event). stays token (events ++ xs)) is stay
stays_all idle stays token events more few any (inr none) stay = any none.0 token (events ++ more)

module _ {K L : Type 0} (moment : K → ℕ) (left_since : K → ℕ → L → Type 0) (stands : L → List Event → Type 0) where
  -- what is in flight are these events, or none
  pub in_flight : (old new : K) (idle : Bool) (bytes : List ℕ) (events more : List Event)
      → ((few : List Event) → SpellTogether bytes few → LeavesEvents moment left_since stands old new (AreAllAndSome events few))
      → SpellAll idle more bytes → LeavesEvents moment left_since stands old new (AreAllAndSome events more)
  in_flight old new idle bytes events more leaves all =
      let s = spelled_by idle more bytes all in
      wider moment left_since stands old new (AreAllAndSome events s.0) (AreAllAndSome events more) (λ found some. at_most idle events more s.0 found s.1 some)
      (leaves s.0 s.2)
