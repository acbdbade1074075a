-- Contents are those of one store at most, and a refusal says that they are of none.
use Rattle.std.proofs.Common.{◌≡◌, ◌≢◌, ℕ, true, false, List, [], ◌∷◌, ◌++◌, Result, Ok, Err}
use Rattle.std.proofs.Common.{refl, sym, ap, subst, ◌∙◌, inl, inr, length}
use Rattle.std.specs.Prelude.{IfOk, IfErr}
use Rattle.std.specs.List.{Contains}
use Rattle.journal.specs.Records.{Recovers}
use Rattle.kept_walk.specs.Contents.{AreContents, AreEvents, AreFrom, BeginsWithHead, IsKept}
use Rattle.kept_walk.specs.Contents.{SpellsBy, SpellsEvent}
use Rattle.kept_walk.specs.Contents.{begins_event, head_kind, of_events}
use Rattle.kept_walk.specs.Fields as form
use Rattle.kept_walk.specs.Kept.{Event, batch, deletion, cut, Store}
use Rattle.kept_walk.specs.Numbered.{Names}
use Rattle.kept_walk.specs.Refusals.{Denies, FindsStore, GivesStore, HasRefusedMatcher, StandBehind}
use Rattle.kept_walk.specs.Refusals.{IsNoEvent, IsRefusedEvent, StopsAt}
use Rattle.kept_walk.specs.declared.error.KeptError.{KeptError}
use Rattle.kept_walk.specs.declared.error.KeptError.TheVariants as errors
use Rattle.kept_walk.specs.declared.journal_state.Values.{Values}
use Rattle.kept_walk.specs.declared.journal_state.Values.TheVariants.{Whole, Doubles}
use Rattle.kept_walk.proofs.FromNames.{one_by, one_from, placed_from}
use Rattle.kept_walk.proofs.OneHead.{one_head, one_store}

abbrev Contents : Type 0
Contents = List (List ℕ)

-- how contents begin

kind_of_head : (values : Values) (rest : List ℕ) (others : Contents)
    → begins_event ((head_kind values ∷ rest) ∷ others) ≡ false
kind_of_head Whole rest others = refl
kind_of_head Doubles rest others = refl

head_begins : (contents : Contents) (store : Store) (behind : Contents)
    → BeginsWithHead contents store behind → begins_event contents ≡ false
head_begins contents store behind h =
    ap begins_event h.whole
    ∙ (ap (λ (c : List ℕ). begins_event (c ∷ (h.others ++ behind))) h.opening.text
    ∙ kind_of_head store.values
    (form.opening.text (store.floor, (h.places, length store.head))) (h.others ++ behind))

event_begins : (content : List ℕ) (others : Contents) (event : Event) → SpellsEvent content event
    → begins_event (content ∷ others) ≡ true
event_begins content others (batch runs) s =
    ap (λ (c : List ℕ). begins_event (c ∷ others)) s.text
event_begins content others (deletion matchers from to) s =
    ap (λ (c : List ℕ). begins_event (c ∷ others)) s.text
event_begins content others (cut time) s =
    ap (λ (c : List ℕ). begins_event (c ∷ others)) s.text

begins_so : (names : Names) (content : List ℕ) (others : Contents) (event : Event) (after : Names)
    → SpellsBy names content event after → begins_event (content ∷ others) ≡ true
begins_so names content others event after (inl s) = event_begins content others event s.0
begins_so names content others event after (inr s) =
    ap (λ (c : List ℕ). begins_event (c ∷ others)) s.2.text

events_begin : (contents : Contents) (events : List Event) → events ≢ []
    → AreEvents contents events → begins_event contents ≡ true
events_begin [] [] some all = absurd (some refl)
events_begin [] (e ∷ events) some all = absurd all.1
events_begin (c ∷ contents) [] some all = absurd all.1
events_begin (c ∷ contents) (e ∷ events) some all =
    begins_so [] c contents e all.1.0 all.1.1

apart : {X : Type 0} (contents : Contents) → begins_event contents ≡ true
    → begins_event contents ≡ false → X
apart contents t f = absurd (let e : true ≡ false = sym t ∙ f in cc)

-- one store

one_list : (contents : Contents) (xs ys : List Event) → AreEvents contents xs
    → AreEvents contents ys → xs ≡ ys
one_list contents xs ys a b = (one_from [] contents xs ys a.0 b.0 a.1 b.1).0

pub one_of_contents : (contents : Contents) (a b : Store) → AreContents contents a
    → AreContents contents b → a ≡ b
one_of_contents contents a b (inl x) (inl y) =
    let same = one_head contents a b x.0 y.0 x.1 y.1 in
    let events = one_list y.0 a.events b.events
    (subst (λ (cs : Contents). AreEvents cs a.events) same.rest x.2) y.2 in
    one_store a b same.values same.floor same.folders same.head events
one_of_contents contents a b (inl x) (inr y) =
    apart contents (events_begin contents b.events y.1 y.2) (head_begins contents a x.0 x.1)
one_of_contents contents a b (inr x) (inl y) =
    apart contents (events_begin contents a.events x.1 x.2) (head_begins contents b y.0 y.1)
one_of_contents contents a b (inr x) (inr y) =
    x.0 ∙ (ap of_events (one_list contents a.events b.events x.2 y.2) ∙ sym y.0)

-- and what a refusal says

events_behind : (contents : Contents) (store : Store) (behind : Contents)
    → AreContents contents store → StandBehind contents behind → AreEvents behind store.events
events_behind contents store behind (inl x) (inl y) =
    subst (λ (cs : Contents). AreEvents cs store.events)
    (one_head contents store y.0 x.0 behind x.1 y.1).rest x.2
events_behind contents store behind (inl x) (inr y) =
    apart contents y.0 (head_begins contents store x.0 x.1)
events_behind contents store behind (inr x) (inl y) =
    apart contents (events_begin contents store.events x.1 x.2) (head_begins contents y.0 behind y.1)
events_behind contents store behind (inr x) (inr y) =
    subst (λ (cs : Contents). AreEvents cs store.events) (sym y.1) x.2

last_of : (P : Names → List ℕ → Type 0) (behind : Contents) (at : ℕ) (events : List Event)
    (s : StopsAt P behind at) → AreEvents behind events
    → (e : Event) × (after : Names) × SpellsBy s.names s.last e after × Contains events e
last_of P behind at events s all =
    placed_from [] s.front s.last s.rest events s.events all.0 s.names
    (subst (λ (cs : Contents). AreFrom [] cs events all.0) s.whole all.1) s.before

no_head : (contents : Contents) (store : Store) → AreContents contents store
    → begins_event contents ≡ false
    → ((other : Store) (behind : Contents) → BeginsWithHead contents other behind → ⊥) → ⊥
no_head contents store (inl x) other none = none store x.0 x.1
no_head contents store (inr x) other none =
    apart contents (events_begin contents store.events x.1 x.2) other

pub only_store : (contents : Contents) (store : Store) (result : Result Store KeptError)
    → AreContents contents store → FindsStore contents result → GivesStore store result
only_store contents store (Ok kept) are h = one_of_contents contents kept store h are
only_store contents store (Err errors.Memory) are h = tt
only_store contents store (Err (errors.Journal e)) are h = absurd h
only_store contents store (Err errors.Head) are h = no_head contents store are h.0 h.1
only_store contents store (Err (errors.Change at)) are h =
    let all = events_behind contents store h.0 are h.1 in
    let last = last_of IsNoEvent h.0 at store.events h.2 all in
    h.2.stop last.0 last.1 last.2
only_store contents store (Err (errors.Matcher at)) are h =
    let all = events_behind contents store h.0 are h.1 in
    let last = last_of IsRefusedEvent h.0 at store.events h.2 all in
    let said = h.2.stop in
    let same = one_by h.2.names h.2.last said.0 last.0 said.1 last.1 said.2 last.2 in
    (last.0, last.3, subst HasRefusedMatcher same.0 said.3)

-- of a file

pub is_kept : (file : List ℕ) (contents : Contents) (result : Result Store KeptError)
    → Recovers file contents → FindsStore contents result
    → IfOk result (λ store. IsKept file store)
is_kept file contents (Ok store) recovers h =
    record { contents = contents; recovers = recovers; are = h }
is_kept file contents (Err e) recovers h = tt

pub is_denied : (file : List ℕ) (contents : Contents) (result : Result Store KeptError)
    → Recovers file contents → FindsStore contents result → IfErr result (λ e. Denies file e)
is_denied file contents (Ok store) recovers h = tt
is_denied file contents (Err errors.Memory) recovers h = tt
is_denied file contents (Err (errors.Journal e)) recovers h = absurd h
is_denied file contents (Err errors.Head) recovers h = (contents, recovers, h)
is_denied file contents (Err (errors.Change at)) recovers h = (contents, recovers, h)
is_denied file contents (Err (errors.Matcher at)) recovers h = (contents, recovers, h)

pub only_kept : (file : List ℕ) (contents : Contents) (result : Result Store KeptError)
    (store : Store) (kept : IsKept file store) → contents ≡ kept.contents
    → FindsStore contents result → GivesStore store result
only_kept file contents result store kept same h =
    only_store contents store result
    (subst (λ (cs : Contents). AreContents cs store) (sym same) kept.are) h
