-- What is read is the one text of its value, and each text is read.
use Rattle.std.proofs.Common.{◌≡◌, ℕ, ◌<◌, zero, suc, true, false, eqb, List, []}
use Rattle.std.proofs.Common.{◌∷◌, ◌++◌, length, Option, None, Some, Result, Ok, Err, refl, sym, ap}
use Rattle.std.proofs.Common.{subst, ◌∙◌, append_assoc, inl, inr, arith}
use Rattle.std.specs.List.{flat_map, AllByRecursion}
use Rattle.std.specs.Str.{is_utf8}
use Rattle.std.proofs.lemmas.Bool.{eqb-true, false_from_ne_true}
use Rattle.std.proofs.lemmas.List.Concat.{flat_map-cons}
use Rattle.wire.specs.Spelling.{uvarint, varint, IsBytes}
use Rattle.wire.specs.Reading.{byte_at, bytes_at, uvarint_at, varint_at}
use Rattle.wire.specs.Outcome.{or_refused}
use Rattle.wire.proofs.Fields.{bytes_takes, bytes_again}
use Rattle.wire.proofs.KnownReads.{chosen}
use Rattle.wire.proofs.Laws.{uvarint_takes, uvarint_again}
use Rattle.wire.proofs.Signed.{varint_takes, varint_again}
use Rattle.wire.proofs.Steps.{bind_ok, refused_ok, passed, not_failed, same_value, rest_fits}
use Rattle.labels.specs.Labels.{Labels}
use Rattle.matchers.specs.Views.{MatcherView}
use Rattle.matchers.specs.declared.matcher.Op.{Op}
use Rattle.matchers.specs.declared.matcher.Op.TheVariants.{Equal, NotEqual, Like, NotLike}
use Rattle.head.specs.Worlds.{Event, batch, deletion, cut, joined}
use Rattle.event_text.specs.declared.error.TextError.{TextError}
use Rattle.event_text.specs.declared.error.TextError.TheVariants.{Kind, Field, Runs as BadRuns}
use Rattle.event_text.specs.declared.error.TextError.TheVariants.{Labels as BadLabels}
use Rattle.event_text.specs.Runs.{Run, runs_of, batch_in, differ}
use Rattle.event_text.specs.Spelling.{string_text, pair_text, many_text, labels_text, sample_text}
use Rattle.event_text.specs.Spelling.{run_text, op_number, matcher_text, event_text}
use Rattle.event_text.specs.Spelling.{IsText, IsPair, AreMany, IsSample, IsRun, IsMatcher}
use Rattle.event_text.specs.Spelling.{HasSpelling}
use Rattle.event_text.specs.Reading.{text_at, pair_at, each_at, many_at, are_labels, labels_at}
use Rattle.event_text.specs.Reading.{sample_at, run_at, op_at, with_op, matcher_at, batch_at}
use Rattle.event_text.specs.Reading.{deletion_at, cut_at, event_at}
use Rattle.event_text.proofs.Labelled.{is_label_set, are_labels_when}
use Rattle.event_text.proofs.RunLaws.{batch_runs, differ_runs, runs_batch}

-- the text of a value in front, and bytes after it
pub record Takes {A : Type 0} (text : A → List ℕ) (P : A → Type 0) (bytes : List ℕ) (x : A
    × List ℕ) : Type 0 where
  pub front : bytes ≡ text x.0 ++ x.1
  pub fits : P x.0
  pub behind : IsBytes x.1

abbrev pub Reader : Type 0 → Type 0
Reader A = List ℕ → Result (A × List ℕ) TextError

abbrev pub EachTakes : {A : Type 0} → Reader A → (A → List ℕ) → (A → Type 0) → Type 0
EachTakes {A} at text P = (bytes : List ℕ) (x : A × List ℕ) → IsBytes bytes → at bytes ≡ Ok x
    → Takes text P bytes x

abbrev pub EachAgain : {A : Type 0} → Reader A → (A → List ℕ) → (A → Type 0) → Type 0
EachAgain {A} at text P = (a : A) (rest : List ℕ) → P a → at (text a ++ rest) ≡ Ok (a, rest)

text_takes : EachTakes text_at string_text IsText
unfolding text_at
text_takes bytes x fits h =
    let n = bind_ok (or_refused Field (uvarint_at bytes)) _ x h in
    let s = bind_ok (or_refused Field (bytes_at n.0.0 n.0.1)) _ x n.2 in
    let t = passed (is_utf8 s.0.0) Field (Ok s.0) x s.2 in
    let one = uvarint_takes bytes n.0.0 n.0.1 fits (refused_ok Field (uvarint_at bytes) n.0 n.1) in
    let n_fits = rest_fits bytes (uvarint n.0.0) n.0.1 fits one.0 in
    let two = bytes_takes n.0.0 n.0.1 s.0.0 s.0.1 (refused_ok Field (bytes_at n.0.0 n.0.1) s.0 s.1) in
    let len : n.0.0 ≡ length s.0.0 = sym two.1 in
    subst (Takes string_text IsText bytes) (same_value s.0 x t.1) (record {
      front = one.0 ∙ (ap (λ (y : List ℕ). uvarint n.0.0 ++ y) two.0
          ∙ (sym (append_assoc (uvarint n.0.0) s.0.0 s.0.1)
          ∙ ap (λ (m : ℕ). (uvarint m ++ s.0.0) ++ s.0.1) len));
      fits = record { utf8 = t.0; short = omega (arith, one.1, two.1) };
      behind = rest_fits n.0.1 s.0.0 s.0.1 n_fits two.0;
    })

text_again : EachAgain text_at string_text IsText
unfolding text_at
text_again s rest h =
    let one = uvarint_again (length s) (s ++ rest) h.short in
    let two = bytes_again s rest in
    ap text_at (append_assoc (uvarint (length s)) s rest) ∙ rw (one, two, h.utf8) refl

pair_takes : EachTakes pair_at pair_text IsPair
unfolding pair_at
pair_takes bytes x fits h =
    let a = bind_ok (text_at bytes) _ x h in
    let b = bind_ok (text_at a.0.1) _ x a.2 in
    let one = text_takes bytes a.0 fits a.1 in
    let two = text_takes a.0.1 b.0 one.behind b.1 in
    let made : (List ℕ × List ℕ) × List ℕ = ((a.0.0, b.0.0), b.0.1) in
    subst (Takes pair_text IsPair bytes) (same_value made x b.2) (record {
      front = one.front ∙ (ap (λ (y : List ℕ). string_text a.0.0 ++ y) two.front
          ∙ sym (append_assoc (string_text a.0.0) (string_text b.0.0) b.0.1));
      fits = record { name = one.fits; value = two.fits };
      behind = two.behind;
    })

pair_again : EachAgain pair_at pair_text IsPair
unfolding pair_at
pair_again p rest h =
    let one = text_again p.0 (string_text p.1 ++ rest) h.name in
    let two = text_again p.1 rest h.value in
    ap pair_at (append_assoc (string_text p.0) (string_text p.1) rest) ∙ rw (one, two) refl

-- several items

record TakesEach {A : Type 0} (text : A → List ℕ) (P : A
    → Type 0) (n : ℕ) (bytes : List ℕ) (x : List A × List ℕ) : Type 0 where
  front : bytes ≡ flat_map text x.0 ++ x.1
  each : AllByRecursion P x.0
  count : length x.0 ≡ n
  behind : IsBytes x.1

module _ {A : Type 0} (at : Reader A) (text : A → List ℕ) (P : A → Type 0) where
  each_takes : EachTakes at text P → (n : ℕ) (bytes : List ℕ) (x : List A × List ℕ)
      → IsBytes bytes → each_at at n bytes ≡ Ok x → TakesEach text P n bytes x
  unfolding each_at
  each_takes law zero bytes x fits h =
      let made : List A × List ℕ = ([], bytes) in
      subst (TakesEach text P zero bytes) (same_value made x h) (record { front = refl; each = tt; count = refl; behind = fits })
  each_takes law (suc n) bytes x fits h =
      let a = bind_ok (at bytes) _ x h in
      let b = bind_ok (each_at at n a.0.1) _ x a.2 in
      let one = law bytes a.0 fits a.1 in
      let others = each_takes law n a.0.1 b.0 one.behind b.1 in
      let made : List A × List ℕ = (a.0.0 ∷ b.0.0, b.0.1) in
      subst (TakesEach text P (suc n) bytes) (same_value made x b.2) (record {
        front = one.front ∙ (ap (λ (y : List ℕ). text a.0.0 ++ y) others.front
            ∙ (sym (append_assoc (text a.0.0) (flat_map text b.0.0) b.0.1)
            ∙ ap (λ (y : List ℕ). y ++ b.0.1) (sym (flat_map-cons text a.0.0 b.0.0))));
        each = (one.fits, others.each);
        count = omega (arith, others.count);
        behind = others.behind;
      })

  each_again : EachAgain at text P → (xs : List A) (rest : List ℕ) → AllByRecursion P xs
      → each_at at (length xs) (flat_map text xs ++ rest) ≡ Ok (xs, rest)
  unfolding each_at
  each_again law [] rest h = refl
  each_again law (x ∷ xs) rest h =
      let one = law x (flat_map text xs ++ rest) h.0 in
      let others = each_again law xs rest h.1 in
      let parts : flat_map text (x ∷ xs) ++ rest ≡ text x ++ (flat_map text xs ++ rest) =
      ap (λ (y : List ℕ). y ++ rest) (flat_map-cons text x xs)
      ∙ append_assoc (text x) (flat_map text xs) rest in
      ap (each_at at (suc (length xs))) parts ∙ rw (one, others) refl

  pub many_takes : EachTakes at text P → EachTakes (many_at at) (many_text text) (AreMany P)
  unfolding many_at
  many_takes law bytes x fits h =
      let n = bind_ok (or_refused Field (uvarint_at bytes)) _ x h in
      let one = uvarint_takes bytes n.0.0 n.0.1 fits (refused_ok Field (uvarint_at bytes) n.0 n.1) in
      let n_fits = rest_fits bytes (uvarint n.0.0) n.0.1 fits one.0 in
      let all = each_takes law n.0.0 n.0.1 x n_fits n.2 in
      record {
        front = one.0 ∙ (ap (λ (y : List ℕ). uvarint n.0.0 ++ y) all.front
            ∙ (sym (append_assoc (uvarint n.0.0) (flat_map text x.0) x.1)
            ∙ ap (λ (m : ℕ). (uvarint m ++ flat_map text x.0) ++ x.1) (sym all.count)));
        fits = record { short = omega (arith, one.1, all.count); each = all.each };
        behind = all.behind;
      }

  pub many_again : EachAgain at text P → EachAgain (many_at at) (many_text text) (AreMany P)
  unfolding many_at
  many_again law xs rest h =
      let one = uvarint_again (length xs) (flat_map text xs ++ rest) h.short in
      ap (many_at at) (append_assoc (uvarint (length xs)) (flat_map text xs) rest)
      ∙ rw one (each_again law xs rest h.each)

-- a label set

pub record IsSet (l : Labels) : Type 0 where
  pub pairs : AreMany IsPair l
  pub named : are_labels l ≡ true

pub labels_takes : EachTakes labels_at labels_text IsSet
unfolding labels_at labels_text
labels_takes bytes x fits h =
    let p = bind_ok (many_at pair_at bytes) _ x h in
    let t = passed (are_labels p.0.0) BadLabels (Ok p.0) x p.2 in
    let one = many_takes pair_at pair_text IsPair pair_takes bytes p.0 fits p.1 in
    subst (Takes labels_text IsSet bytes) (same_value p.0 x t.1)
    (record { front = one.front; fits = record { pairs = one.fits; named = t.0 }; behind = one.behind })

pub labels_again : EachAgain labels_at labels_text IsSet
unfolding labels_at labels_text
labels_again l rest h =
    let one = many_again pair_at pair_text IsPair pair_again l rest h.pairs in
    rw (one, h.named) refl

pub sample_takes : EachTakes sample_at sample_text IsSample
unfolding sample_at sample_text
sample_takes bytes x fits h =
    let t = bind_ok (or_refused Field (varint_at bytes)) _ x h in
    let v = bind_ok (or_refused Field (varint_at t.0.1)) _ x t.2 in
    let one = varint_takes bytes t.0.0 t.0.1 fits (refused_ok Field (varint_at bytes) t.0 t.1) in
    let t_fits = rest_fits bytes (varint t.0.0) t.0.1 fits one.0 in
    let two = varint_takes t.0.1 v.0.0 v.0.1 t_fits (refused_ok Field (varint_at t.0.1) v.0 v.1) in
    subst (Takes sample_text IsSample bytes) (same_value ((t.0.0, v.0.0), v.0.1) x v.2) (record {
      front = one.0 ∙ (ap (λ (y : List ℕ). varint t.0.0 ++ y) two.0
          ∙ sym (append_assoc (varint t.0.0) (varint v.0.0) v.0.1));
      fits = record { time = one.1; value = two.1 };
      behind = rest_fits t.0.1 (varint v.0.0) v.0.1 t_fits two.0;
    })

pub sample_again : EachAgain sample_at sample_text IsSample
unfolding sample_at sample_text
sample_again s rest h =
    let one = varint_again s.0 (varint s.1 ++ rest) h.time in
    let two = varint_again s.1 rest h.value in
    ap sample_at (append_assoc (varint s.0) (varint s.1) rest) ∙ rw (one, two) refl

-- a run

not_zero : (n : ℕ) → eqb n 0 ≡ false → 0 < n
not_zero zero h = absurd cc
not_zero (suc n) h = omega arith

filled_when : (n : ℕ) → 0 < n → eqb n 0 ≡ false
filled_when n lt = false_from_ne_true (eqb n 0) (λ t. let e = eqb-true n 0 t in absurd (omega (arith, e)))

run_takes : EachTakes run_at run_text IsRun
unfolding run_at run_text
run_takes bytes x fits h =
    let l = bind_ok (labels_at bytes) _ x h in
    let s = bind_ok (many_at sample_at l.0.1) _ x l.2 in
    let t = not_failed (eqb (length s.0.0) 0) BadRuns (Ok ((l.0.0, s.0.0), s.0.1)) x s.2 in
    let one = labels_takes bytes l.0 fits l.1 in
    let two = many_takes sample_at sample_text IsSample sample_takes l.0.1 s.0 one.behind s.1 in
    subst (Takes run_text IsRun bytes) (same_value ((l.0.0, s.0.0), s.0.1) x t.1) (record {
      front = one.front ∙ (ap (λ (y : List ℕ). labels_text l.0.0 ++ y) two.front
          ∙ sym (append_assoc (labels_text l.0.0) (many_text sample_text s.0.0) s.0.1));
      fits = record {
        pairs = one.fits.pairs;
        label_set = is_label_set l.0.0 one.fits.named;
        samples = two.fits;
        filled = not_zero (length s.0.0) t.0;
      };
      behind = two.behind;
    })

run_again : EachAgain run_at run_text IsRun
unfolding run_at run_text
run_again run rest h =
    let set : IsSet run.0 = record { pairs = h.pairs; named = are_labels_when run.0 h.label_set } in
    let one = labels_again run.0 (many_text sample_text run.1 ++ rest) set in
    let two = many_again sample_at sample_text IsSample sample_again run.1 rest h.samples in
    ap run_at (append_assoc (labels_text run.0) (many_text sample_text run.1) rest)
    ∙ rw (one, two, filled_when (length run.1) h.filled) refl

-- a matcher

byte_takes : (bytes : List ℕ) (x : ℕ × List ℕ) → byte_at bytes ≡ Ok x → bytes ≡ x.0 ∷ x.1
byte_takes [] x h = absurd cc
byte_takes (b ∷ bytes) x h =
    let made : ℕ × List ℕ = (b, bytes) in
    let same : made ≡ x = cc in
    ap (λ (p : ℕ × List ℕ). p.0 ∷ p.1) same

abbrev some : Op → Option Op
some op = Some op

abbrev no_op : Option Op
no_op = None

same_op : (a b : Op) → some a ≡ Some b → a ≡ b
same_op a b h = cc

abbrev made_of : Op → List ℕ × List ℕ → MatcherView
made_of op texts = record { name = texts.0; op = op; text = texts.1 }

-- the number of an operator
op_takes : (n : ℕ) (op : Op) → op_at n ≡ Some op → n ≡ op_number op
op_takes n op h =
    elim (chosen (eqb n 0) _ _ _ h) [
      | inl t ↦ eqb-true n 0 t.0 ∙ ap op_number (same_op Equal op t.1)
      | inr f ↦ elim (chosen (eqb n 1) _ _ _ f.1) [
        | inl t ↦ eqb-true n 1 t.0 ∙ ap op_number (same_op NotEqual op t.1)
        | inr g ↦ elim (chosen (eqb n 2) _ _ _ g.1) [
          | inl t ↦ eqb-true n 2 t.0 ∙ ap op_number (same_op Like op t.1)
          | inr i ↦ elim (chosen (eqb n 3) _ _ _ i.1) [
            | inl t ↦ eqb-true n 3 t.0 ∙ ap op_number (same_op NotLike op t.1)
            | inr j ↦ absurd (let none : no_op ≡ Some op = j.1 in cc)
          ]
        ]
      ]
    ]

with_takes : (found : Option Op) (texts : (List ℕ × List ℕ) × List ℕ) (x : MatcherView × List ℕ)
    → with_op found texts ≡ Ok x → (op : Op) × (found ≡ Some op)
    × ((made_of op texts.0, texts.1) ≡ x)
with_takes None texts x h = absurd cc
with_takes (Some op) texts x h = (op, refl, same_value (made_of op texts.0, texts.1) x h)

op_again : (op : Op) → op_at (op_number op) ≡ Some op
op_again Equal = refl
op_again NotEqual = refl
op_again Like = refl
op_again NotLike = refl

matcher_takes : EachTakes matcher_at matcher_text IsMatcher
unfolding matcher_at matcher_text
matcher_takes bytes x fits h =
    let k = bind_ok (or_refused Field (byte_at bytes)) _ x h in
    let p = bind_ok (pair_at k.0.1) _ x k.2 in
    let one = byte_takes bytes k.0 (refused_ok Field (byte_at bytes) k.0 k.1) in
    let k_fits = rest_fits bytes (k.0.0 ∷ []) k.0.1 fits one in
    let two = pair_takes k.0.1 p.0 k_fits p.1 in
    let w = with_takes (op_at k.0.0) p.0 x p.2 in
    subst (Takes matcher_text IsMatcher bytes) w.2 (record {
      front = one ∙ (ap (λ (n : ℕ). n ∷ k.0.1) (op_takes k.0.0 w.0 w.1)
          ∙ ap (λ (y : List ℕ). op_number w.0 ∷ y) two.front);
      fits = two.fits;
      behind = two.behind;
    })

matcher_again : EachAgain matcher_at matcher_text IsMatcher
unfolding matcher_at matcher_text
matcher_again m rest h =
    let one = pair_again (m.name, m.text) rest h in
    rw (one, op_again m.op) refl

-- an event

-- an event in front, after its kind
record TakesEvent (kind : ℕ) (bytes : List ℕ) (x : Event × List ℕ) : Type 0 where
  front : kind ∷ bytes ≡ event_text x.0 ++ x.1
  spelled : HasSpelling x.0

batch_takes : (bytes : List ℕ) (x : Event × List ℕ) → IsBytes bytes → batch_at bytes ≡ Ok x
    → TakesEvent 1 bytes x
unfolding batch_at event_text
batch_takes bytes x fits h =
    let r = bind_ok (many_at run_at bytes) _ x h in
    let t = passed (differ r.0.0) BadRuns (Ok (batch (batch_in r.0.0), r.0.1)) x r.2 in
    let one = many_takes run_at run_text IsRun run_takes bytes r.0 fits r.1 in
    let same : runs_of (batch_in r.0.0) ≡ r.0.0 =
    runs_batch IsRun (λ run h. h.filled) r.0.0 one.fits.each t.0 in
    subst (TakesEvent 1 bytes) (same_value (batch (batch_in r.0.0), r.0.1) x t.1) (record {
      front = ap (λ (y : List ℕ). 1 ∷ y) (one.front
          ∙ ap (λ (rs : List Run). many_text run_text rs ++ r.0.1) (sym same));
      spelled = subst (AreMany IsRun) (sym same) one.fits;
    })

deletion_takes : (bytes : List ℕ) (x : Event × List ℕ) → IsBytes bytes
    → deletion_at bytes ≡ Ok x → TakesEvent 2 bytes x
unfolding deletion_at event_text
deletion_takes bytes x fits h =
    let m = bind_ok (many_at matcher_at bytes) _ x h in
    let t = bind_ok (or_refused Field (varint_at m.0.1)) _ x m.2 in
    let v = bind_ok (or_refused Field (varint_at t.0.1)) _ x t.2 in
    let one = many_takes matcher_at matcher_text IsMatcher matcher_takes bytes m.0 fits m.1 in
    let two = varint_takes m.0.1 t.0.0 t.0.1 one.behind (refused_ok Field (varint_at m.0.1) t.0 t.1) in
    let t_fits = rest_fits m.0.1 (varint t.0.0) t.0.1 one.behind two.0 in
    let three = varint_takes t.0.1 v.0.0 v.0.1 t_fits (refused_ok Field (varint_at t.0.1) v.0 v.1) in
    let numbers : m.0.1 ≡ (varint t.0.0 ++ varint v.0.0) ++ v.0.1 =
    two.0 ∙ (ap (λ (y : List ℕ). varint t.0.0 ++ y) three.0
    ∙ sym (append_assoc (varint t.0.0) (varint v.0.0) v.0.1)) in
    let text : bytes ≡ (many_text matcher_text m.0.0 ++ (varint t.0.0 ++ varint v.0.0)) ++ v.0.1 =
    one.front ∙ (ap (λ (y : List ℕ). many_text matcher_text m.0.0 ++ y) numbers
    ∙ sym (append_assoc (many_text matcher_text m.0.0) (varint t.0.0 ++ varint v.0.0) v.0.1)) in
    subst (TakesEvent 2 bytes) (same_value (deletion m.0.0 t.0.0 v.0.0, v.0.1) x v.2)
    (record { front = ap (λ (y : List ℕ). 2 ∷ y) text; spelled = (one.fits, two.1, three.1) })

cut_takes : (bytes : List ℕ) (x : Event × List ℕ) → IsBytes bytes → cut_at bytes ≡ Ok x
    → TakesEvent 3 bytes x
unfolding cut_at event_text
cut_takes bytes x fits h =
    let t = bind_ok (or_refused Field (varint_at bytes)) _ x h in
    let one = varint_takes bytes t.0.0 t.0.1 fits (refused_ok Field (varint_at bytes) t.0 t.1) in
    subst (TakesEvent 3 bytes) (same_value (cut t.0.0, t.0.1) x t.2)
    (record { front = ap (λ (y : List ℕ). 3 ∷ y) one.0; spelled = one.1 })

abbrev refused : Result (Event × List ℕ) TextError
refused = Err Kind

-- the event in front
pub record Fronts (bytes : List ℕ) (x : Event × List ℕ) : Type 0 where
  pub front : bytes ≡ event_text x.0 ++ x.1
  pub spelled : HasSpelling x.0

by_kind : (bytes rest : List ℕ) (kind n : ℕ) (x : Event × List ℕ) → bytes ≡ kind ∷ rest → kind ≡ n
    → TakesEvent n rest x → Fronts bytes x
by_kind bytes rest kind n x text e t =
    record { front = text ∙ (ap (λ (m : ℕ). m ∷ rest) e ∙ t.front); spelled = t.spelled }

pub event_takes : (bytes : List ℕ) (x : Event × List ℕ) → IsBytes bytes → event_at bytes ≡ Ok x
    → Fronts bytes x
unfolding event_at
event_takes bytes x fits h =
    let k = bind_ok (or_refused Kind (byte_at bytes)) _ x h in
    let one = byte_takes bytes k.0 (refused_ok Kind (byte_at bytes) k.0 k.1) in
    let k_fits = rest_fits bytes (k.0.0 ∷ []) k.0.1 fits one in
    elim (chosen (eqb k.0.0 1) _ _ _ k.2) [
      | inl t ↦ by_kind bytes k.0.1 k.0.0 1 x one (eqb-true k.0.0 1 t.0) (batch_takes k.0.1 x k_fits t.1)
      | inr f ↦
          elim (chosen (eqb k.0.0 2) _ _ _ f.1) [
            | inl t ↦ by_kind bytes k.0.1 k.0.0 2 x one (eqb-true k.0.0 2 t.0) (deletion_takes k.0.1 x k_fits t.1)
            | inr g ↦
                elim (chosen (eqb k.0.0 3) _ _ _ g.1) [
                  | inl t ↦ by_kind bytes k.0.1 k.0.0 3 x one (eqb-true k.0.0 3 t.0) (cut_takes k.0.1 x k_fits t.1)
                  | inr n ↦ absurd (let none : refused ≡ Ok x = n.1 in cc)
                ]
          ]
    ]

pub event_again : (e : Event) (rest : List ℕ) → HasSpelling e
    → event_at (event_text e ++ rest) ≡ Ok (e, rest)
unfolding event_at event_text batch_at deletion_at cut_at
event_again (batch xs) rest h =
    let all = many_again run_at run_text IsRun run_again (runs_of xs) rest h in
    rw (all, differ_runs xs, batch_runs xs) refl
event_again (deletion ms a b) rest h =
    let matchers = many_text matcher_text ms in
    let text : (matchers ++ (varint a ++ varint b)) ++ rest ≡ matchers ++ (varint a ++ (varint b ++ rest)) =
    append_assoc matchers (varint a ++ varint b) rest
    ∙ ap (λ (y : List ℕ). matchers ++ y) (append_assoc (varint a) (varint b) rest) in
    let all = many_again matcher_at matcher_text IsMatcher matcher_again ms (varint a ++ (varint b ++ rest)) h.0 in
    let two = varint_again a (varint b ++ rest) h.1 in
    let three = varint_again b rest h.2 in
    ap (λ (y : List ℕ). event_at (2 ∷ y)) text ∙ rw (all, two, three) refl
event_again (cut t) rest h =
    let one = varint_again t rest h in
    rw one refl
event_again (joined at count made) rest h = absurd h
