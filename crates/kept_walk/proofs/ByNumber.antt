-- Each batch by number is read as what it spells, and as nothing else.
use Rattle.std.proofs.Common.{◌≡◌, ℕ, ◌<◌, ◌^◌, zero, suc, Bool, true, false, List, [], ◌∷◌, ◌++◌, ℤ}
use Rattle.std.proofs.Common.{length, get_or, Ok, Err, refl, sym, ap, subst, ◌∙◌, arith, inl}
use Rattle.std.proofs.Common.{inr, eqb, ltb, append_assoc, ◌≤◌, ◌-◌, ◌+◌, take}
use Rattle.std.specs.Prelude.{⊤, ◌&&◌, ◌+ℤ◌, ◌-ℤ◌, pos, nat_le, Option, Some, None, cond}
use Rattle.std.specs.List.{list_all}
use Rattle.std.proofs.lemmas.Bool.{eqb-true, ltb-true, lt-ltb, le-ltb}
use Rattle.std.proofs.lemmas.Bool.Decides.{nat_tests}
use Rattle.std.proofs.lemmas.Int.{ints}
use Rattle.std.proofs.lemmas.List.{append-nil, length-append, take_at}
use Rattle.wire.specs.Spelling.{uvarint, varint, zigzag, IsBytes}
use Rattle.wire.proofs.Fields.{IsBytes-front}
use Rattle.wire.proofs.KnownReads.{chosen}
use Rattle.wire.proofs.Laws.{uvarint_again}
use Rattle.wire.proofs.Signed.{varint_again}
use Rattle.wire.proofs.Steps.{bind_ok, passed, same_value}
use Rattle.labels.specs.Contents.{is_time}
use Rattle.labels.specs.Labels.{Labels}
use Rattle.labels.specs.Rows.{Row}
use Rattle.name_table.specs.Names.{is_new}
use Rattle.kept_walk.specs.declared.fault.Fault.TheVariants as faults
use Rattle.kept_walk.specs.Contents.{SpellsNumbered, are_timed, is_bounded, sample_count}
use Rattle.kept_walk.specs.Fields as form
use Rattle.kept_walk.specs.Kept.{batch}
use Rattle.kept_walk.specs.Numbered.{AreBytes, AreListed, IsEither, IsLater, IsRun, Names, State}
use Rattle.kept_walk.specs.NumberedReading.{Read, dated, is_allowed, known_at, later_at, list_by}
use Rattle.kept_walk.specs.NumberedReading.{name_at, new_at, numbered_at, numbered_of, run_by}
use Rattle.kept_walk.specs.NumberedReading.{time_after}
use Rattle.kept_walk.specs.Reading.{all_of, if_ended, labels_at, number_at, signed_at}
use Rattle.kept_walk.proofs.Contents.{labels_reads}
use Rattle.kept_walk.proofs.Readers.{number_reads, signed_reads, all_takes, all_again, ended}
use Rattle.kept_walk.proofs.States.{ReadsBy, TakesBy, list_reads_by}

-- SAMPLES

abbrev AnyTime : ℤ → Type 0
AnyTime t = ⊤

back : (t d : ℤ) → ((t +ℤ d) -ℤ t) ≡ d
back t d = omega (arith, ints)

on : (t u : ℤ) → (t +ℤ (u -ℤ t)) ≡ u
on t u = omega (arith, ints)

abbrev Later : Type 0
Later = ((ℤ × ℤ) × ℤ) × List ℕ

abbrev sample_read : ℤ → ℤ → ℤ → List ℕ → Read ℤ (ℤ × ℤ)
sample_read u v after rest = Ok (((u, v), after), rest)

abbrev no_sample : Read ℤ (ℤ × ℤ)
no_sample = Err faults.Form

abbrev no_time : Option ℤ
no_time = None

abbrev some_time : ℤ → Option ℤ
some_time t = Some t

same_time : (t u : ℤ) → some_time t ≡ some_time u → t ≡ u
same_time t u e = cc

dated_ok : (o : Option ℤ) (v : ℤ) (rest : List ℕ) (x : Later) → dated o v rest ≡ Ok x
    → (u : ℤ) × (o ≡ Some u) × (sample_read u v u rest ≡ Ok x)
dated_ok None v rest x h = absurd (let none : no_sample ≡ Ok x = h in cc)
dated_ok (Some u) v rest x h = (u, refl, h)

time_is : (t d u : ℤ) → time_after t d ≡ Some u → (is_time u ≡ true) × (u ≡ t +ℤ d)
unfolding time_after
time_is t d u h =
    elim (chosen (is_time (t +ℤ d)) _ _ _ h) [
      | inl p ↦
          let e : (t +ℤ d) ≡ u = same_time (t +ℤ d) u p.1 in
          (subst (λ (z : ℤ). is_time z ≡ true) e p.0, sym e)
      | inr n ↦ absurd (let none : no_time ≡ Some u = n.1 in cc)
    ]

time_again : (t u : ℤ) → is_time u ≡ true → time_after t (u -ℤ t) ≡ Some u
unfolding time_after
time_again t u h = ap (λ (v : ℤ). cond (is_time v) (Some v) None) (on t u) ∙ rw h refl

later_takes : (t : ℤ) (bytes : List ℕ) (x : Later) → AnyTime t → IsBytes bytes
    → later_at t bytes ≡ Ok x → TakesBy AnyTime IsLater t bytes x
unfolding later_at
later_takes t bytes x any fits h =
    let d = bind_ok (signed_at bytes) _ x h in
    let v = bind_ok (signed_at d.0.1) _ x d.2 in
    let u = dated_ok (time_after t d.0.0) v.0.0 v.0.1 x v.2 in
    let made : Later = (((u.0, v.0.0), u.0), v.0.1) in
    let is = time_is t d.0.0 u.0 u.1 in
    let step : u.0 -ℤ t ≡ d.0.0 = ap (λ (z : ℤ). z -ℤ t) is.1 ∙ back t d.0.0 in
    let first = signed_reads.takes bytes d.0 fits d.1 in
    let second = signed_reads.takes d.0.1 v.0 first.behind v.1 in
    subst (TakesBy AnyTime IsLater t bytes) (same_value made x u.2) (record {
      front = varint d.0.0 ++ varint v.0.0;
      parts = first.front ∙ (ap (λ (y : List ℕ). varint d.0.0 ++ y) second.front
          ∙ sym (append_assoc (varint d.0.0) (varint v.0.0) v.0.1));
      is = record {
        parts = ap (λ (z : ℤ). varint z ++ varint v.0.0) (sym step);
        step = subst (λ (z : ℤ). zigzag z < 2 ^ 64) (sym step) first.fits;
        value = second.fits;
        dated = is.0;
        time = refl;
      };
      keeps = tt;
      behind = second.behind;
    })

later_again : (t : ℤ) (sample : ℤ × ℤ) (bytes : List ℕ) (after : ℤ) (rest : List ℕ)
    → IsLater t sample bytes after → later_at t (bytes ++ rest) ≡ Ok ((sample, after), rest)
unfolding later_at
later_again t (u, v) bytes after rest h =
    let step = varint (u -ℤ t) in
    let one = varint_again (u -ℤ t) (varint v ++ rest) h.step in
    let two = varint_again v rest h.value in
    let read : later_at t (step ++ (varint v ++ rest)) ≡ dated (time_after t (u -ℤ t)) v rest =
    rw (one, two) refl in
    ap (λ (y : List ℕ). later_at t (y ++ rest)) h.parts
    ∙ (ap (later_at t) (append_assoc step (varint v) rest)
    ∙ (read
    ∙ (ap (λ (o : Option ℤ). dated o v rest) (time_again t u h.dated)
    ∙ ap (λ (z : ℤ). sample_read u v z rest) (sym h.time))))

later_reads : ReadsBy AnyTime IsLater later_at
later_reads = record { takes = later_takes; again = later_again }

laters_reads : ReadsBy AnyTime (AreListed IsLater) (list_by later_at)
laters_reads = list_reads_by AnyTime IsLater later_at later_reads

-- NAMES

self : (n : ℕ) → eqb n n ≡ true
self n = grind (arith, nat_tests)

pub more_bytes : (names : Names) (text : List ℕ) → AreBytes names → IsBytes text
    → AreBytes (names ++ text ∷ [])
more_bytes [] text kept fits zero = fits
more_bytes [] text kept fits (suc n) = λ i. omega arith
more_bytes (name ∷ names) text kept fits zero = kept 0
more_bytes (name ∷ names) text kept fits (suc n) =
    more_bytes names text (λ m. kept (suc m)) fits n

-- the text of a label set in front
pub record IsCut (bytes : List ℕ) (l : Labels) (rest : List ℕ) : Type 0 where
  pub short : length rest ≤ length bytes
  pub text : take (length bytes - length rest) bytes ≡ form.labels.text l

pub cut_labels : (bytes : List ℕ) (l : Labels) (rest : List ℕ) → IsBytes bytes
    → labels_at bytes ≡ Ok (l, rest) → IsCut bytes l rest
cut_labels bytes l rest fits h =
    let first = labels_reads.takes bytes (l, rest) fits h in
    let text = form.labels.text l in
    let long : length bytes ≡ length text + length rest =
    ap length first.front ∙ length-append text rest in
    record {
      short = omega (arith, long);
      text = ap (take (length bytes - length rest)) first.front
          ∙ take_at text rest (length bytes - length rest) (omega (arith, long));
    }

abbrev Named : Type 0
Named = (Labels × Names) × List ℕ

-- a label set behind its number
record TakesName (number : ℕ) (names : Names) (bytes : List ℕ) (x : Named) : Type 0 where
  front : List ℕ
  parts : uvarint number ++ bytes ≡ front ++ x.1
  is : IsEither names x.0.0 front x.0.1
  keeps : AreBytes x.0.1
  behind : IsBytes x.1

known_takes : (number : ℕ) (names : Names) (bytes : List ℕ) (x : Named) → AreBytes names
    → IsBytes bytes → number < 2 ^ 64 → number < length names
    → known_at (get_or names number []) names bytes ≡ Ok x → TakesName number names bytes x
unfolding known_at
known_takes number names bytes x kept fits few given h =
    let text = get_or names number [] in
    let l = bind_ok (all_of labels_at text) _ x h in
    let s = all_takes form.labels labels_at labels_reads text l.0 (kept number) l.1 in
    let made : Named = ((l.0, names), bytes) in
    subst (TakesName number names bytes) (same_value made x l.2) (record {
      front = uvarint number;
      parts = refl;
      is = inl (record {
        number = number;
        given = given;
        named = s.text;
        fits = s.fits;
        parts = refl;
        few = few;
        same = refl;
      });
      keeps = kept;
      behind = fits;
    })

new_takes : (number : ℕ) (names : Names) (bytes : List ℕ) (x : Named) → AreBytes names
    → IsBytes bytes → number < 2 ^ 64 → number ≡ length names
    → new_at names bytes ≡ Ok x → TakesName number names bytes x
unfolding new_at
new_takes number names bytes x kept fits few next h =
    let l = bind_ok (labels_at bytes) _ x h in
    let text = form.labels.text l.0.0 in
    let made : Named = ((l.0.0, names ++ text ∷ []), l.0.1) in
    let p = passed (is_new text names) faults.Form (Ok made) x l.2 in
    let first = labels_reads.takes bytes l.0 fits l.1 in
    let own = IsBytes-front text l.0.1 (subst IsBytes first.front fits) in
    subst (TakesName number names bytes) (same_value made x p.1) (record {
      front = uvarint number ++ text;
      parts = ap (λ (y : List ℕ). uvarint number ++ y) first.front
          ∙ sym (append_assoc (uvarint number) text l.0.1);
      is = inr (record {
        new = p.0;
        fits = first.fits;
        parts = ap (λ (n : ℕ). uvarint n ++ text) next;
        few = subst (λ (n : ℕ). n < 2 ^ 64) next few;
        more = refl;
      });
      keeps = more_bytes names text kept own;
      behind = first.behind;
    })

abbrev no_name : Read Names Labels
no_name = Err faults.Form

numbered_takes : (number : ℕ) (names : Names) (bytes : List ℕ) (x : Named) → AreBytes names
    → IsBytes bytes → number < 2 ^ 64 → numbered_at number names bytes ≡ Ok x
    → TakesName number names bytes x
numbered_takes number names bytes x kept fits few h =
    elim (chosen (ltb number (length names)) _ _ _ h) [
      | inl t ↦ known_takes number names bytes x kept fits few (ltb-true number (length names) t.0) t.1
      | inr f ↦
          elim (chosen (eqb number (length names)) _ _ _ f.1) [
            | inl t ↦ new_takes number names bytes x kept fits few (eqb-true number (length names) t.0) t.1
            | inr n ↦ absurd (let none : no_name ≡ Ok x = n.1 in cc)
          ]
    ]

name_takes : (names : Names) (bytes : List ℕ) (x : Named) → AreBytes names → IsBytes bytes
    → name_at names bytes ≡ Ok x → TakesBy AreBytes IsEither names bytes x
unfolding name_at
name_takes names bytes x kept fits h =
    let n = bind_ok (number_at bytes) _ x h in
    let first = number_reads.takes bytes n.0 fits n.1 in
    let then = numbered_takes n.0.0 names n.0.1 x kept first.behind first.fits n.2 in
    record {
      front = then.front;
      parts = first.front ∙ then.parts;
      is = then.is;
      keeps = then.keeps;
      behind = then.behind;
    }

abbrev name_read : Labels → Names → List ℕ → Read Names Labels
name_read l after rest = Ok ((l, after), rest)

name_again : (names : Names) (l : Labels) (bytes : List ℕ) (after : Names) (rest : List ℕ)
    → IsEither names l bytes after → name_at names (bytes ++ rest) ≡ Ok ((l, after), rest)
unfolding name_at known_at new_at
name_again names l bytes after rest (inl h) =
    let text = get_or names h.number [] in
    let one = uvarint_again h.number rest h.few in
    let low : ltb h.number (length names) ≡ true = lt-ltb _ _ h.given in
    let known = all_again form.labels labels_at labels_reads text l
    (record { text = h.named; fits = h.fits }) in
    let read : name_at names (uvarint h.number ++ rest) ≡ name_read l names rest =
    rw (one, low, known) refl in
    ap (λ (y : List ℕ). name_at names (y ++ rest)) h.parts
    ∙ (read ∙ ap (λ (t : Names). name_read l t rest) (sym h.same))
name_again names l bytes after rest (inr h) =
    let n = length names in
    let text = form.labels.text l in
    let one = uvarint_again n (text ++ rest) h.few in
    let high : ltb n n ≡ false = le-ltb _ _ (omega arith) in
    let found = labels_reads.again l rest h.fits in
    let read : name_at names (uvarint n ++ (text ++ rest)) ≡ name_read l (names ++ text ∷ []) rest =
    rw (one, high, self n, found, h.new) refl in
    ap (λ (y : List ℕ). name_at names (y ++ rest)) h.parts
    ∙ (ap (name_at names) (append_assoc (uvarint n) text rest)
    ∙ (read ∙ ap (λ (t : Names). name_read l t rest) (sym h.more)))

name_reads : ReadsBy AreBytes IsEither name_at
name_reads = record { takes = name_takes; again = name_again }

-- RUNS

abbrev HasBytes : State → Type 0
HasBytes s = AreBytes s.0

abbrev Run : Type 0
Run = (Row × State) × List ℕ

run_takes : (s : State) (bytes : List ℕ) (x : Run) → HasBytes s → IsBytes bytes
    → run_by s bytes ≡ Ok x → TakesBy HasBytes IsRun s bytes x
unfolding run_by
run_takes s bytes x kept fits h =
    let n = bind_ok (name_at s.0 bytes) _ x h in
    let xs = bind_ok (list_by later_at s.1 n.0.1) _ x n.2 in
    let made : Run = (((n.0.0.0, xs.0.0.0), (n.0.0.1, xs.0.0.1)), xs.0.1) in
    let p = passed (form.is_filled xs.0.0.0) faults.Form (Ok made) x xs.2 in
    let first = name_reads.takes s.0 bytes n.0 kept fits n.1 in
    let second = laters_reads.takes s.1 n.0.1 xs.0 tt first.behind xs.1 in
    subst (TakesBy HasBytes IsRun s bytes) (same_value made x p.1) (record {
      front = first.front ++ second.front;
      parts = first.parts ∙ (ap (λ (y : List ℕ). first.front ++ y) second.parts
          ∙ sym (append_assoc first.front second.front xs.0.1));
      is = record {
        name = first.front;
        samples = second.front;
        parts = refl;
        named = first.is;
        listed = second.is;
        filled = p.0;
      };
      keeps = first.keeps;
      behind = second.behind;
    })

abbrev run_read : Row → State → List ℕ → Read State Row
run_read run after rest = Ok ((run, after), rest)

run_again : (s : State) (run : Row) (bytes : List ℕ) (after : State) (rest : List ℕ)
    → IsRun s run bytes after → run_by s (bytes ++ rest) ≡ Ok ((run, after), rest)
unfolding run_by
run_again s (l, xs) bytes (names, t) rest h =
    let one = name_reads.again s.0 l h.name names (h.samples ++ rest) h.named in
    let two = laters_reads.again s.1 xs h.samples t rest h.listed in
    let read : run_by s (h.name ++ (h.samples ++ rest)) ≡ run_read (l, xs) (names, t) rest =
    rw (one, two, h.filled) refl in
    ap (λ (y : List ℕ). run_by s (y ++ rest)) h.parts
    ∙ (ap (run_by s) (append_assoc h.name h.samples rest) ∙ read)

run_reads_by : ReadsBy HasBytes IsRun run_by
run_reads_by = record { takes = run_takes; again = run_again }

runs_reads_by : ReadsBy HasBytes (AreListed IsRun) (list_by run_by)
runs_reads_by = list_reads_by HasBytes IsRun run_by run_reads_by

-- A BATCH

and_left : (x y : Bool) → (x && y) ≡ true → x ≡ true
and_left true y h = refl
and_left false y h = absurd cc

and_right : (x y : Bool) → (x && y) ≡ true → y ≡ true
and_right true y h = h
and_right false y h = absurd cc

both_true : (x y : Bool) → x ≡ true → y ≡ true → (x && y) ≡ true
both_true true y h i = i
both_true false y h i = absurd cc

three : (x y z : Bool) → x ≡ true → (y && z) ≡ true → (x && y && z) ≡ true
three true y z h i = i
three false y z h i = absurd cc

-- what holds of runs that are allowed
record HoldsOf (runs : List Row) : Type 0 where
  differ : form.each_next form.differs runs ≡ true
  bounded : is_bounded (batch runs) ≡ true

holds_of : (runs : List Row) → is_allowed runs ≡ true → HoldsOf runs
holds_of runs h =
    let apart = form.each_next form.differs runs in
    let few = nat_le (sample_count runs) 4096 in
    let timed = list_all are_timed runs in
    let two : (apart && few) ≡ true = and_left (apart && few) timed h in
    record {
      differ = and_left apart few two;
      bounded = both_true few timed (and_right apart few two) (and_right (apart && few) timed h);
    }

pub numbered_found : (names : Names) (fields : List ℕ) (x : List Row × Names) → AreBytes names
    → IsBytes fields → numbered_of names fields ≡ Ok x
    → SpellsNumbered names (4 ∷ fields) x.0 x.1 × AreBytes x.1
unfolding numbered_of
numbered_found names fields x kept fits h =
    let r = bind_ok (list_by run_by (names, pos 0) fields) _ x h in
    let w = bind_ok (if_ended r.0) _ x r.2 in
    let e = ended r.0 w.0 w.1 in
    let made : List Row × Names = (w.0.0, w.0.1.0) in
    let p = passed (is_allowed w.0.0) faults.Form (Ok made) x w.2 in
    let ok = holds_of w.0.0 p.0 in
    let all = runs_reads_by.takes (names, pos 0) fields r.0 kept fits r.1 in
    let whole : all.front ≡ fields =
    sym (all.parts ∙ (ap (λ (y : List ℕ). all.front ++ y) e.1 ∙ append-nil all.front)) in
    let listed : AreListed IsRun (names, pos 0) w.0.0 fields w.0.1 =
    subst (λ (y : List Row × State). AreListed IsRun (names, pos 0) y.0 fields y.1) e.0
    (subst (λ (b : List ℕ). AreListed IsRun (names, pos 0) r.0.0.0 b r.0.0.1) whole all.is) in
    let bytes : AreBytes w.0.1.0 =
    subst (λ (y : List Row × State). AreBytes y.1.0) e.0 all.keeps in
    subst (λ (y : List Row × Names). SpellsNumbered names (4 ∷ fields) y.0 y.1 × AreBytes y.1)
    (same_value made x p.1) (
      record {
        fields = fields;
        last = w.0.1.1;
        text = refl;
        listed = listed;
        differ = ok.differ;
        bounded = ok.bounded;
      },
      bytes,
    )

abbrev content : List ℕ → List ℕ
content fields = 4 ∷ fields

same_fields : (a b : List ℕ) → content a ≡ content b → a ≡ b
same_fields a b e = cc

pub numbered_again : (names : Names) (fields : List ℕ) (runs : List Row) (after : Names)
    → SpellsNumbered names (4 ∷ fields) runs after → numbered_of names fields ≡ Ok (runs, after)
unfolding numbered_of
numbered_again names fields runs after h =
    let same : h.fields ≡ fields = same_fields h.fields fields (sym h.text) in
    let read = runs_reads_by.again (names, pos 0) runs h.fields (after, h.last) [] h.listed in
    let whole : list_by run_by (names, pos 0) fields ≡ Ok ((runs, (after, h.last)), []) =
    ap (list_by run_by (names, pos 0)) (sym (append-nil h.fields ∙ same)) ∙ read in
    let ok : is_allowed runs ≡ true =
    three (form.each_next form.differs runs) (nat_le (sample_count runs) 4096)
    (list_all are_timed runs) h.differ h.bounded in
    rw (whole, ok) refl
