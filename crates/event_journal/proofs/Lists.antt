-- Contents one after another, each of which spells an event.
use Rattle.std.proofs.Common.{◌≡◌, inl, inr, ℕ, zero, suc, ◌+◌, ◌<◌, List, [], ◌∷◌, ◌++◌, length, take}
use Rattle.std.proofs.Common.{drop, get_or, Result, Ok, Err, refl, sym, ap, subst, ◌∙◌, arith, Vec}
use Rattle.std.specs.declared.alloc.Global.{Global}
use Rattle.std.proofs.lemmas.List.{take-append-drop, take_more, map-append}
use Rattle.std.proofs.Math.Seq.{drop-cons}
use Rattle.wire.specs.Outcome.{Fails}
use Rattle.wire.proofs.Steps.{same_value}
use Rattle.head.specs.Worlds.{Event}
use Rattle.event_text.specs.declared.error.EventError.{EventError}
use Rattle.event_text.specs.declared.error.EventError.TheVariants.{Text, Matcher}
use Rattle.event_text.specs.declared.error.TextError.{TextError}
use Rattle.event_text.specs.declared.error.TextError.TheVariants.{Memory as NoText}
use Rattle.event_text.specs.Reading.{event_of}
use Rattle.event_text.specs.Outcome.{FollowsFrom, GivesEvent}
use Rattle.event_text.specs.Spelling.{event_text, Spells}
use Rattle.journal.specs.Contents.{contents_in}
use Rattle.name_table.specs.Names.{Label}
use Rattle.numbered_text.specs.declared.error.NumberError.{NumberError}
use Rattle.numbered_text.specs.declared.error.NumberError.TheVariants as faults
use Rattle.numbered_text.specs.Outcome.{is_memory}
use Rattle.numbered_text.specs.Reading.{plain_of}
use Rattle.event_journal.specs.declared.error.ContentError.{ContentError}
use Rattle.event_journal.specs.declared.error.ContentError.TheVariants.{Number, Named}
use Rattle.event_journal.specs.declared.error.ContentError.TheVariants.{Event as of_event}
use Rattle.event_journal.specs.FindingLaws.{one_event, same_from}
use Rattle.event_journal.specs.Naming.{FollowsBy, FollowsPlain, Spell, SpellFrom, SpellsBy}
use Rattle.event_journal.specs.Naming.{content_error}
use Rattle.event_journal.specs.Outcome.{MayRefuse, RefusesAt}
use Rattle.event_journal.proofs.Naming.{spell_joined}

abbrev Bytes : Type 0
Bytes = Vec ℕ Global

abbrev no_bytes : List Bytes
no_bytes = []

-- one content

pub spells_by : (names after : List Label) (content text : List ℕ) (e : Event)
    → plain_of names content ≡ Ok (text, after) → Spells text e → SpellsBy names content e after
spells_by names after content text e read s = record {
  text = read ∙ ap (λ (t : List ℕ). plain t after) s.text;
  kept = record { spelled = s.spelled; bounded = s.bounded };
}
  where
    plain : List ℕ → List Label → Result (List ℕ × List Label) NumberError
    plain t ns = Ok (t, ns)

pub text_is : (names after next : List Label) (content text : List ℕ) (e : Event)
    → plain_of names content ≡ Ok (text, after) → SpellsBy names content e next → Spells text e
text_is names after next content text e read s =
    let x : List ℕ × List Label = (text, after) in
    let y : List ℕ × List Label = (event_text e, next) in
    record {
      text = ap (λ (p : List ℕ × List Label). p.0) (same_value x y (sym read ∙ s.text));
      spelled = s.kept.spelled;
      bounded = s.kept.bounded;
    }

abbrev Plain : Type 0
Plain = Result (List ℕ × List Label) NumberError

pub read_as : (names after : List Label) (content text : List ℕ)
    (result : Result Event ContentError) → plain_of names content ≡ Ok (text, after)
    → FollowsPlain (Ok (text, after)) result → FollowsBy names content result
read_as names after content text result read f =
    subst (λ (r : Plain). FollowsPlain r result) (sym read) f

abbrev failed : NumberError → Plain
failed e = Err e

abbrev pub refusal : ContentError → Result Event ContentError
refusal e = Err e

abbrev no_room : ContentError
no_room = of_event (Text NoText)

-- a want of memory says nothing of a content

no_event : (read : Result Event TextError) → FollowsFrom read (Err (Text NoText))
no_event (Ok e) = refl
no_event (Err f) = inr refl

no_memory : (read : Plain) → FollowsPlain read (refusal no_room)
no_memory (Ok plain) = no_event (event_of plain.0)
no_memory (Err e) = inr refl

-- a content that stands for no text is refused so

known : (e : NumberError) (read : Plain) → read ≡ Err e
    → FollowsPlain read (refusal (content_error e))
known e read is =
    subst (λ (r : Plain). FollowsPlain r (refusal (content_error e))) (sym is) (inl refl)

pub no_text : (e : NumberError) (read : Plain) → Fails is_memory e read
    → FollowsPlain read (refusal (content_error e))
no_text faults.Memory read h = no_memory read
no_text faults.Field read h = known faults.Field read h
no_text faults.Bounds read h = known faults.Bounds read h
no_text faults.Rest read h = known faults.Rest read h
no_text faults.Number read h = known faults.Number read h
no_text faults.Named read h = known faults.Named read h

other : {X : Type 0} (e : NumberError) (names next : List Label) (content : List ℕ) (event : Event)
    → plain_of names content ≡ Err e → SpellsBy names content event next → X
other e names next content event h s =
    absurd (let x : failed e ≡ Ok (event_text event, next) = sym h ∙ s.text in cc)

pub only_memory : (e : NumberError) (names next : List Label) (content : List ℕ) (event : Event)
    → Fails is_memory e (plain_of names content) → SpellsBy names content event next
    → MayRefuse (event ∷ []) (content_error e)
only_memory faults.Memory names next content event h s = refl
only_memory faults.Field names next content event h s =
    other faults.Field names next content event h s
only_memory faults.Bounds names next content event h s =
    other faults.Bounds names next content event h s
only_memory faults.Rest names next content event h s =
    other faults.Rest names next content event h s
only_memory faults.Number names next content event h s =
    other faults.Number names next content event h s
only_memory faults.Named names next content event h s =
    other faults.Named names next content event h s

pub may_refuse : (e : Event) (error : EventError) → GivesEvent e (Err error)
    → MayRefuse (e ∷ []) (of_event error)
may_refuse e (Text f) g = g
may_refuse e (Matcher f) g = inl g

-- several

whole : (vs : List Bytes) (i : ℕ) → length vs ≡ i → take i vs ≡ vs
whole [] i e = subst (λ (n : ℕ). take n no_bytes ≡ no_bytes) e refl
whole (v ∷ vs) zero e = absurd cc
whole (v ∷ vs) (suc i) e = ap (λ (x : List Bytes). v ∷ x) (whole vs i (omega (arith, e)))

-- all contents were read
pub spell_whole : (vs : List Bytes) (i : ℕ) (events : List Event) (names : List Label)
    → length vs ≡ i → Spell (contents_in (take i vs)) events names
    → Spell (contents_in vs) events names
spell_whole vs i events names is s =
    subst (λ (x : List Bytes). Spell (contents_in x) events names) (whole vs i is) s

-- one more was read
pub spell_more : (vs : List Bytes) (i : ℕ) (d : Bytes) (content : List ℕ) (events : List Event)
    (e : Event) (names after : List Label) → i < length vs → content ≡ (get_or vs i d).items
    → Spell (contents_in (take i vs)) events names → SpellsBy names content e after
    → Spell (contents_in (take (i + 1) vs)) (events ++ e ∷ []) after
spell_more vs i d content events e names after lt is s one =
    let last : contents_in (take i vs) ++ content ∷ [] ≡ contents_in (take (i + 1) vs) =
    ap (λ (x : List ℕ). contents_in (take i vs) ++ x ∷ []) is
    ∙ (sym (map-append (λ (w : Bytes). w.items) (take i vs) (get_or vs i d ∷ []))
    ∙ ap contents_in (sym (take_more vs i d lt))) in
    subst (λ (x : List (List ℕ)). Spell x (events ++ e ∷ []) after) last
    (spell_joined [] names after (contents_in (take i vs)) (content ∷ []) events (e ∷ []) s
    (after, one, refl))

-- the event that a content spells by the names before it, where all spell events
pub record SpelledAt (all : List Event) (names : List Label) (content : List ℕ) : Type 0 where
  pub event : Event
  pub after : List Label
  pub spells : SpellsBy names content event after
  pub among : (error : ContentError) → MayRefuse (event ∷ []) error → MayRefuse all error

spelled_here : (e : Event) (es : List Event) (error : ContentError) → MayRefuse (e ∷ []) error
    → MayRefuse (e ∷ es) error
spelled_here e es (of_event (Text f)) m = m
spelled_here e es (of_event (Matcher f)) (inl m) = inl m
spelled_here e es (of_event (Matcher f)) (inr m) = absurd m
spelled_here e es Number m = m
spelled_here e es Named m = m

spelled_later : (e : Event) (es : List Event) (error : ContentError) → MayRefuse es error
    → MayRefuse (e ∷ es) error
spelled_later e es (of_event (Text f)) m = m
spelled_later e es (of_event (Matcher f)) m = inr m
spelled_later e es Number m = m
spelled_later e es Named m = m

pub spelled_at : (vs : List Bytes) (i : ℕ) (d : Bytes) (first names after : List Label)
    (found all : List Event) → i < length vs → SpellFrom first (contents_in (take i vs)) found names
    → SpellFrom first (contents_in vs) all after → SpelledAt all names (get_or vs i d).items
spelled_at [] i d first names after found all lt s t = absurd (omega (arith, lt))
spelled_at (v ∷ vs) i d first names after found [] lt s t = absurd t
spelled_at (v ∷ vs) zero d first names after [] (a ∷ all) lt s t = record {
  event = a;
  after = t.0;
  spells = subst (λ (ns : List Label). SpellsBy ns v.items a t.0) s t.1;
  among = spelled_here a all;
}
spelled_at (v ∷ vs) zero d first names after (f ∷ found) (a ∷ all) lt s t = absurd s
spelled_at (v ∷ vs) (suc i) d first names after [] (a ∷ all) lt s t = absurd s
spelled_at (v ∷ vs) (suc i) d first names after (f ∷ found) (a ∷ all) lt s t =
    let same = one_event first v.items f a s.0 t.0 s.1 t.1 in
    let r = spelled_at vs i d t.0 names after found all (omega (arith, lt))
    (subst (λ (ns : List Label). SpellFrom ns (contents_in (take i vs)) found names) same.1 s.2)
    t.2 in
    record {
      event = r.event;
      after = r.after;
      spells = r.spells;
      among = λ error m. spelled_later a all error (r.among error m);
    }

counted : (names after : List Label) (contents : List (List ℕ)) (events : List Event)
    → SpellFrom names contents events after → length events ≡ length contents
counted names after [] [] s = refl
counted names after [] (e ∷ events) s = absurd s
counted names after (c ∷ contents) [] s = absurd s
counted names after (c ∷ contents) (e ∷ events) s =
    ap suc (counted s.0 after contents events s.2)

-- the first content that is refused
pub refuses_at : (vs : List Bytes) (i : ℕ) (d : Bytes) (content : List ℕ) (events : List Event)
    (names : List Label) (error : ContentError) → i < length vs → content ≡ (get_or vs i d).items
    → Spell (contents_in (take i vs)) events names
    → FollowsBy names content (Err error)
    → RefusesAt (contents_in vs) (length events) error
refuses_at vs i d content events names error lt is so_far f = record {
  before = contents_in (take i vs);
  content = content;
  after = contents_in (drop (suc i) vs);
  events = events;
  names = names;
  earlier = so_far;
  parts = ap contents_in (sym (take-append-drop i vs)
      ∙ ap (λ (x : List Bytes). take i vs ++ x) (drop-cons vs i d lt))
      ∙ map-append (λ (w : Bytes). w.items) (take i vs) (get_or vs i d ∷ drop (suc i) vs)
      ∙ ap (λ (x : List ℕ). contents_in (take i vs) ++ x ∷ contents_in (drop (suc i) vs)) (sym is);
  place = counted [] names (contents_in (take i vs)) events so_far;
  refused = f;
}

-- contents spell one list of events
pub same_events : (contents : List (List ℕ)) (found events : List Event) (m n : List Label)
    → Spell contents found m → Spell contents events n → found ≡ events
same_events contents found events m n s t = (same_from [] contents found events m n s t).0
