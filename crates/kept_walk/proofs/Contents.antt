-- Each content is read as what it spells, and as nothing else.
use Rattle.std.proofs.Common.{◌≡◌, ℕ, ◌<◌, ◌≤◌, zero, suc, false, List, ◌∷◌, ◌++◌, ℤ}
use Rattle.std.proofs.Common.{Result, Ok, Err, refl, sym, ap, subst, ◌∙◌, arith, inl, inr, eqb}
use Rattle.std.proofs.lemmas.Bool.{eqb-true, false_from_ne_true}
use Rattle.std.proofs.lemmas.Bool.Decides.{nat_tests}
use Rattle.wire.specs.Spelling.{IsBytes}
use Rattle.wire.proofs.KnownReads.{chosen}
use Rattle.wire.proofs.Steps.{bind_ok, passed, same_value}
use Rattle.labels.specs.Labels.{Labels}
use Rattle.matchers.specs.Views.{MatcherView}
use Rattle.matchers.specs.declared.matcher.Op.{Op}
use Rattle.matchers.specs.declared.matcher.Op.TheVariants.{Equal, NotEqual, Like, NotLike}
use Rattle.kept_walk.specs.declared.fault.Fault.{Fault}
use Rattle.kept_walk.specs.declared.fault.Fault.TheVariants as faults
use Rattle.kept_walk.specs.declared.journal_state.Values.{Values}
use Rattle.kept_walk.specs.declared.journal_state.Values.TheVariants.{Whole, Doubles}
use Rattle.kept_walk.specs.Contents.{event_text, HasText, is_bounded, head_kind}
use Rattle.kept_walk.specs.Contents.{SpellsEvent, SpellsSeries, SpellsOpening}
use Rattle.kept_walk.specs.Fields as form
use Rattle.kept_walk.specs.Forms.{Form, octet, number, signed, string, both, list, such}
use Rattle.kept_walk.specs.Kept.{Event, batch, deletion, cut, Series}
use Rattle.kept_walk.specs.Outcome.{Finds, Gives}
use Rattle.kept_walk.specs.Reading.{Reader, octet_at, number_at, signed_at, string_at, such_at, as_at}
use Rattle.kept_walk.specs.Reading.{both_at, list_at, all_of, pair_at, labels_at, sample_at}
use Rattle.kept_walk.specs.Reading.{samples_at, run_at, runs_at, op_of, matcher_of, matcher_at}
use Rattle.kept_walk.specs.Reading.{deletion_at, place_at, opening_at, series_in, series_at}
use Rattle.kept_walk.specs.Reading.{removal, by_kind, event_at, event_of, series_of}
use Rattle.kept_walk.specs.Reading.{Opening, opening_whole, opening_of}
use Rattle.kept_walk.proofs.Readers.{Takes, Reads, octet_reads, number_reads, signed_reads}
use Rattle.kept_walk.proofs.Readers.{string_reads, both_reads, such_reads, list_reads, as_reads}
use Rattle.kept_walk.proofs.Readers.{all_takes, all_again}

-- FIELDS

abbrev pair : Form (List ℕ × List ℕ)
pair = both string string

pair_reads : Reads pair pair_at
pair_reads = both_reads string string string_at string_at string_reads string_reads

pub labels_reads : Reads form.labels labels_at
labels_reads =
    such_reads (list pair) (list_at pair_at) (list_reads pair pair_at pair_reads) form.is_label_set

sample_reads : Reads form.sample sample_at
sample_reads = both_reads signed signed signed_at signed_at signed_reads signed_reads

samples_reads : Reads form.samples samples_at
samples_reads = list_reads form.sample sample_at sample_reads

abbrev filled : Form (List (ℤ × ℤ))
filled = such form.is_filled form.samples

run_reads : Reads form.run run_at
run_reads =
    both_reads form.labels filled labels_at (such_at form.is_filled samples_at) labels_reads
    (such_reads form.samples samples_at samples_reads form.is_filled)

runs_reads : Reads form.runs runs_at
runs_reads =
    such_reads (list form.run) (list_at run_at) (list_reads form.run run_at run_reads)
    (form.each_next form.differs)

op_same : (op : Op) → op_of (form.op_number op) ≡ op
op_same Equal = refl
op_same NotEqual = refl
op_same Like = refl
op_same NotLike = refl

matcher_same : (m : MatcherView) → matcher_of (form.matcher_parts m) ≡ m
matcher_same m = rw (op_same m.op) refl

op_back : (n : ℕ) → n ≤ 3 → form.op_number (op_of n) ≡ n
op_back zero le = refl
op_back (suc zero) le = refl
op_back (suc (suc zero)) le = refl
op_back (suc (suc (suc zero))) le = refl
op_back (suc (suc (suc (suc n)))) le = absurd (omega (arith, le))

abbrev op_form : Form ℕ
op_form = such form.is_op octet

abbrev parts_form : Form (ℕ × (List ℕ × List ℕ))
parts_form = both op_form pair

matcher_back : (x : ℕ × (List ℕ × List ℕ)) → parts_form.fits x
    → form.matcher_parts (matcher_of x) ≡ x
matcher_back x h =
    let le : x.0 ≤ 3 = (let t = h.0.1 in grind (arith, nat_tests)) in
    ap (λ (n : ℕ). (n, x.1)) (op_back x.0 le)

matcher_reads : Reads form.matcher matcher_at
matcher_reads =
    as_reads parts_form (both_at (such_at form.is_op octet_at) pair_at)
    (both_reads op_form pair (such_at form.is_op octet_at) pair_at
    (such_reads octet octet_at octet_reads form.is_op) pair_reads)
    form.matcher_parts matcher_of matcher_same matcher_back

abbrev times : Form (ℤ × ℤ)
times = both signed signed

deletion_reads : Reads form.deletion_parts deletion_at
deletion_reads =
    both_reads (list form.matcher) times (list_at matcher_at) (both_at signed_at signed_at)
    (list_reads form.matcher matcher_at matcher_reads) sample_reads

place_reads : Reads form.place place_at
place_reads = both_reads number number number_at number_at number_reads number_reads

abbrev behind_floor : Form (List (ℕ × ℕ) × ℕ)
behind_floor = both (list form.place) number

opening_reads : Reads form.opening opening_at
opening_reads =
    both_reads signed behind_floor signed_at (both_at (list_at place_at) number_at) signed_reads
    (both_reads (list form.place) number (list_at place_at) number_at
    (list_reads form.place place_at place_reads) number_reads)

abbrev behind_labels : Form ((ℤ × ℤ) × List (ℤ × ℤ))
behind_labels = both form.sample form.samples

abbrev series_form : Form (Labels × ((ℤ × ℤ) × List (ℤ × ℤ)))
series_form = both form.labels behind_labels

series_reads : Reads form.series series_at
series_reads =
    as_reads series_form (both_at labels_at (both_at sample_at samples_at))
    (both_reads form.labels behind_labels labels_at (both_at sample_at samples_at) labels_reads
    (both_reads form.sample form.samples sample_at samples_at sample_reads samples_reads))
    form.series_parts series_in (λ s. refl) (λ x h. refl)

-- EVENTS

abbrev event : Form Event
event = record { text = event_text; fits = HasText }

-- an event behind its kind
record TakesEvent (kind : ℕ) (bytes : List ℕ) (x : Event × List ℕ) : Type 0 where
  front : kind ∷ bytes ≡ event_text x.0 ++ x.1
  fits : HasText x.0
  behind : IsBytes x.1

as_event : {A : Type 0} (kind : ℕ) (f : Form A) (at : Reader A) (one : Reads f at)
    (meant : A → Event) → ((a : A) → event_text (meant a) ≡ kind ∷ f.text a)
    → ((a : A) → f.fits a → HasText (meant a)) → (bytes : List ℕ) (x : Event × List ℕ)
    → IsBytes bytes → as_at meant at bytes ≡ Ok x → TakesEvent kind bytes x
unfolding as_at
as_event kind f at one meant text has bytes x fits h =
    let a = bind_ok (at bytes) _ x h in
    let first = one.takes bytes a.0 fits a.1 in
    let made : Event × List ℕ = (meant a.0.0, a.0.1) in
    subst (TakesEvent kind bytes) (same_value made x a.2) (record {
      front = ap (λ (y : List ℕ). kind ∷ y) first.front
          ∙ ap (λ (y : List ℕ). y ++ a.0.1) (sym (text a.0.0));
      fits = has a.0.0 first.fits;
      behind = first.behind;
    })

abbrev refused : Result (Event × List ℕ) Fault
refused = Err faults.Form

other : (n k : ℕ) → k < n → eqb n k ≡ false
other n k lt = false_from_ne_true (eqb n k) (λ t. let e = eqb-true n k t in absurd (omega (arith, e, lt)))

no_kind : (n : ℕ) (bytes : List ℕ) → 3 < n → by_kind n bytes ≡ refused
no_kind n bytes lt =
    rw (other n 1 (omega (arith, lt)), other n 2 (omega (arith, lt)), other n 3 lt) refl

kind_takes : (kind : ℕ) (bytes : List ℕ) (x : Event × List ℕ) → IsBytes bytes
    → by_kind kind bytes ≡ Ok x → TakesEvent kind bytes x
kind_takes (suc zero) bytes x fits h =
    as_event 1 form.runs runs_at runs_reads batch (λ a. refl) (λ a i. i) bytes x fits h
kind_takes (suc (suc zero)) bytes x fits h =
    as_event 2 form.deletion_parts deletion_at deletion_reads removal (λ a. refl) (λ a i. i) bytes x fits h
kind_takes (suc (suc (suc zero))) bytes x fits h =
    as_event 3 signed signed_at signed_reads cut (λ a. refl) (λ a i. i) bytes x fits h
kind_takes zero bytes x fits h = absurd (let none : refused ≡ Ok x = h in cc)
kind_takes (suc (suc (suc (suc n)))) bytes x fits h =
    let far = no_kind (suc (suc (suc (suc n)))) bytes (omega arith) in
    absurd (let none : refused ≡ Ok x = sym far ∙ h in cc)

event_takes : (bytes : List ℕ) (x : Event × List ℕ) → IsBytes bytes → event_at bytes ≡ Ok x
    → Takes event bytes x
unfolding event_at
event_takes bytes x fits h =
    let k = bind_ok (octet_at bytes) _ x h in
    let first = octet_reads.takes bytes k.0 fits k.1 in
    let then = kind_takes k.0.0 k.0.1 x first.behind k.2 in
    record { front = first.front ∙ then.front; fits = then.fits; behind = then.behind }

event_again : (e : Event) (rest : List ℕ) → HasText e
    → event_at (event_text e ++ rest) ≡ Ok (e, rest)
unfolding event_at as_at
event_again (batch runs) rest h = rw (runs_reads.again runs rest h) refl
event_again (deletion ms from to) rest h =
    rw (deletion_reads.again (ms, (from, to)) rest h) refl
event_again (cut time) rest h = rw (signed_reads.again time rest h) refl

event_reads : Reads event event_at
event_reads = record { takes = event_takes; again = event_again }

pub event_found : (content : List ℕ) (e : Event) → IsBytes content → event_of content ≡ Ok e
    → SpellsEvent content e
unfolding event_of
event_found content e fits h =
    let x = bind_ok (all_of event_at content) _ e h in
    let first = all_takes event event_at event_reads content x.0 fits x.1 in
    let t = passed (is_bounded x.0) faults.Form (Ok x.0) e x.2 in
    subst (SpellsEvent content) (same_value x.0 e t.1)
    (record { text = first.text; fits = first.fits; bounded = t.0 })

pub event_read : (content : List ℕ) (e : Event) → SpellsEvent content e → event_of content ≡ Ok e
unfolding event_of
event_read content e s =
    let whole = all_again event event_at event_reads content e
    (record { text = s.text; fits = s.fits }) in
    rw (whole, s.bounded) refl

-- HEADS

abbrev no_series : Result Series Fault
no_series = Err faults.Form

pub series_found : (content : List ℕ) (s : Series) → IsBytes content → series_of content ≡ Ok s
    → SpellsSeries content s
unfolding series_of
series_found content s fits h =
    let k = bind_ok (octet_at content) _ s h in
    let first = octet_reads.takes content k.0 fits k.1 in
    let t = passed (eqb k.0.0 17) faults.Form (all_of series_at k.0.1) s k.2 in
    let is = eqb-true k.0.0 17 t.0 in
    let rest = all_takes form.series series_at series_reads k.0.1 s first.behind t.1 in
    record {
      text = first.front ∙ (ap (λ (n : ℕ). n ∷ k.0.1) is ∙ ap (λ (y : List ℕ). 17 ∷ y) rest.text);
      fits = rest.fits;
    }

pub series_read : (content : List ℕ) (s : Series) → SpellsSeries content s
    → series_of content ≡ Ok s
unfolding series_of
series_read content s h =
    let whole = all_again form.series series_at series_reads (form.series.text s) s
    (record { text = refl; fits = h.fits }) in
    ap series_of h.text ∙ rw whole refl

abbrev no_opening : Result Opening Fault
no_opening = Err faults.Form

whole_found : (values : Values) (kind : ℕ) (content rest : List ℕ) (o : Opening) → IsBytes rest
    → content ≡ kind ∷ rest → kind ≡ head_kind values → opening_whole values rest ≡ Ok o
    → SpellsOpening content o.0 o.1
unfolding opening_whole
whole_found values kind content rest o fits front is h =
    let x = bind_ok (all_of opening_at rest) _ o h in
    let all = all_takes form.opening opening_at opening_reads rest x.0 fits x.1 in
    let made : Opening = (values, x.0) in
    subst (λ (p : Opening). SpellsOpening content p.0 p.1) (same_value made o x.2) (record {
      text = front ∙ (ap (λ (n : ℕ). n ∷ rest) is ∙ ap (λ (y : List ℕ). head_kind values ∷ y) all.text);
      fits = all.fits;
    })

pub opening_found : (content : List ℕ) (o : Opening) → IsBytes content → opening_of content ≡ Ok o
    → SpellsOpening content o.0 o.1
unfolding opening_of
opening_found content o fits h =
    let k = bind_ok (octet_at content) _ o h in
    let first = octet_reads.takes content k.0 fits k.1 in
    elim (chosen (eqb k.0.0 16) _ _ _ k.2) [
      | inl t ↦ whole_found Whole k.0.0 content k.0.1 o first.behind first.front (eqb-true k.0.0 16 t.0) t.1
      | inr f ↦
          elim (chosen (eqb k.0.0 18) _ _ _ f.1) [
            | inl t ↦ whole_found Doubles k.0.0 content k.0.1 o first.behind first.front (eqb-true k.0.0 18 t.0) t.1
            | inr n ↦ absurd (let none : no_opening ≡ Ok o = n.1 in cc)
          ]
    ]

pub opening_read : (content : List ℕ) (o : Opening) → SpellsOpening content o.0 o.1
    → opening_of content ≡ Ok o
unfolding opening_of opening_whole
opening_read content (Whole, said) h =
    let whole = all_again form.opening opening_at opening_reads (form.opening.text said) said
    (record { text = refl; fits = h.fits }) in
    ap opening_of h.text ∙ rw whole refl
opening_read content (Doubles, said) h =
    let whole = all_again form.opening opening_at opening_reads (form.opening.text said) said
    (record { text = refl; fits = h.fits }) in
    ap opening_of h.text ∙ rw whole refl

differ : {A : Type 0} (read : Result A Fault) (a : A) → read ≡ Err faults.Form → read ≡ Ok a → ⊥
differ (Ok x) a e o = absurd cc
differ (Err f) a e o = absurd cc

-- what is found, and that nothing is where the form is another

pub finds : {X A : Type 0} (view : X → A) (P : A → Type 0) (result : Result X Fault)
    (read : Result A Fault) → Gives view result read → ((a : A) → read ≡ Ok a → P a)
    → ((a : A) → P a → read ≡ Ok a) → Finds view P result
finds view P (Ok x) read g found again = found (view x) g
finds view P (Err faults.Memory) read g found again = tt
finds view P (Err faults.Form) read g found again = λ a p. differ read a g (again a p)
