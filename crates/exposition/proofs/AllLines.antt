-- Lines, one after the other.
use Rattle.std.specs.Prelude.{◌≡◌, ℕ, ◌+◌, ◌<◌, List, [], ◌∷◌, ◌++◌, length, take, get_or}
use Rattle.std.specs.Prelude.{◌≤◌, refl, suc, drop, filter, Bool, true, false, cond, Option, None}
use Rattle.std.specs.Prelude.{Some, IfSome}
use Rattle.std.specs.Int.{from_bool}
use Rattle.std.specs.Borrow.{Bor}
use Rattle.std.proofs.Math.Seq.{split_at}
use Rattle.std.proofs.lemmas.List.Folds.{list_all_at, list_all-append, list_all-map}
use Rattle.std.proofs.Common.{sym, ap, subst, ◌∙◌, append_assoc, length-append, arith}
use Rattle.std.proofs.lemmas.Grind.{take_at_read}
use Rattle.std.proofs.lemmas.List.{length-map, length-take-le, map-append}
use Rattle.std.proofs.lemmas.List.Elements.{filter-append}
use Rattle.open_metrics.specs.declared.comments.Format.{Format}
use Rattle.open_metrics.specs.declared.labels.Label.{Label}
use Rattle.open_metrics.specs.Labels.{Pair, pair_in, pairs_in}
use Rattle.exposition.specs.declared.error.Cause.{Cause}
use Rattle.exposition.specs.declared.error.Cause.TheVariants.{Text}
use Rattle.exposition.specs.declared.error.ReadError.{ReadError}
use Rattle.exposition.specs.declared.error.ReadError.TheVariants.{Memory, Refused}
use Rattle.exposition.specs.declared.error.Refusal.{Refusal}
use Rattle.exposition.specs.declared.series.NoLabels.{NoLabels}
use Rattle.exposition.specs.declared.text.Reading.{Reading}
use Rattle.exposition.specs.Faults.{are_utf8, is_utf8_pair, line_fault}
use Rattle.exposition.specs.Reading.{Said, AddsLine, AddAll, exemplars_in, has_exemplar, texts_in}
use Rattle.exposition.specs.Reading.{unsaid}
use Rattle.exposition.specs.Refusing.{IfRefused, IsFirstWrong, IsFor}
use Rattle.exposition.specs.Series.{IsNoUtf8}

all_last : (format : Format) (places : ℕ) (f : Reading) (n : ℕ) (lines : List (List ℕ))
    (line : List ℕ) (a b c : Said)
    → AddAll format places f n lines a b → AddsLine format places f (n + length lines) line b c
    → AddAll format places f n (lines ++ line ∷ []) a c
all_last format places f n [] line a b c all one =
    let none : n + length {A = List ℕ} [] ≡ n = omega arith in (
      c,
      subst (λ (k : ℕ). AddsLine format places f k line a c) none
          (subst (λ (x : Said). AddsLine format places f (n + length {A = List ℕ} []) line x c) all
          one),
      refl,
    )
all_last format places f n (l ∷ ls) line a b c all one =
    let moved : n + length (l ∷ ls) ≡ n + 1 + length ls = omega arith in (
      all.0,
      all.1,
      all_last format places f (n + 1) ls line all.0 b c all.2
          (subst (λ (k : ℕ). AddsLine format places f k line b c) moved one),
    )

taken : (lines : List (Bor (List ℕ))) (n : ℕ) → n < length lines
    → length (texts_in (take n lines)) ≡ n
taken lines n lt =
    length-map (take n lines) (λ (x : Bor (List ℕ)). x.now)
    ∙ length-take-le n lines (omega (arith, lt))

-- one line more, the first of which has the number 1
pub all_more : (format : Format) (places : ℕ) (f : Reading) (lines : List (Bor (List ℕ)))
    (n number : ℕ) (d : Bor (List ℕ)) (a b c : Said) → n < length lines → number ≡ n + 1
    → AddAll format places f 1 (texts_in (take n lines)) a b
    → AddsLine format places f number (get_or lines n d).now b c
    → AddAll format places f 1 (texts_in (take (n + 1) lines)) a c
all_more format places f lines n number d a b c lt is all one =
    let long = taken lines n lt in
    let same : number ≡ 1 + length (texts_in (take n lines)) = omega (arith, is, long) in
    subst (λ (ls : List (List ℕ)). AddAll format places f 1 ls a c)
    (sym (ap texts_in (take_at_read lines n d lt).1
    ∙ map-append (λ (x : Bor (List ℕ)). x.now) (take n lines) (get_or lines n d ∷ [])))
    (all_last format places f 1 (texts_in (take n lines)) (get_or lines n d).now a b c all
    (subst (λ (k : ℕ). AddsLine format places f k (get_or lines n d).now b c) same one))

-- a line that is wrong, behind lines that say something
wrong_here : (format : Format) (places : ℕ) (f : Reading) (lines : List (Bor (List ℕ)))
    (n number : ℕ) (d : Bor (List ℕ)) (said : Said) (r : Refusal) → n < length lines → number ≡ n + 1
    → AddAll format places f 1 (texts_in (take n lines)) unsaid said
    → IsFor number (line_fault format places (get_or lines n d).now) r
    → IsFirstWrong format places f (texts_in lines) r
wrong_here format places f lines n number d said r lt is all wrong = record {
  before = texts_in (take n lines);
  line = (get_or lines n d).now;
  after = texts_in (drop (suc n) lines);
  parts =
      ap texts_in (split_at lines n d lt)
      ∙ map-append (λ (x : Bor (List ℕ)). x.now) (take n lines)
      (get_or lines n d ∷ drop (suc n) lines);
  said = said;
  says = all;
  wrong = (omega (arith, wrong.0, is, taken lines n lt), wrong.1);
}

one_pair : (labels : List Label) (n : ℕ) (x : Label) → n < length labels → x ≡ get_or labels n x
    → pairs_in (take (n + 1) labels) ≡ pairs_in (take n labels) ++ pair_in x ∷ []
one_pair labels n x lt at =
    ap pairs_in
    ((take_at_read labels n x lt).1 ∙ ap (λ (y : Label). take n labels ++ y ∷ []) (sym at))
    ∙ map-append pair_in (take n labels) (x ∷ [])

pub first_wrong : (e : ReadError) (format : Format) (places : ℕ) (f : Reading)
    (lines : List (Bor (List ℕ))) (n number : ℕ) (d : Bor (List ℕ)) (said : Said) → n < length lines → number ≡ n + 1
    → AddAll format places f 1 (texts_in (take n lines)) unsaid said
    → IfRefused e (IsFor number (line_fault format places (get_or lines n d).now))
    → IfRefused e (IsFirstWrong format places f (texts_in lines))
first_wrong Memory format places f lines n number d said lt is all wrong = tt
first_wrong (Refused r) format places f lines n number d said lt is all wrong =
    wrong_here format places f lines n number d said r lt is all wrong

-- the pair of one label more
pub pairs_more : (first so_far new : List Pair) (labels : List Label) (n : ℕ) (x : Label)
    → n < length labels → x ≡ get_or labels n x → so_far ≡ first ++ pairs_in (take n labels)
    → new ≡ so_far ++ pair_in x ∷ [] → new ≡ first ++ pairs_in (take (n + 1) labels)
pairs_more first so_far new labels n x lt at inv put =
    let before = pairs_in (take n labels) in
    put
    ∙ ap (λ (ps : List Pair). ps ++ pair_in x ∷ []) inv
    ∙ append_assoc first before (pair_in x ∷ [])
    ∙ ap (λ (ps : List Pair). first ++ ps) (sym (one_pair labels n x lt at))

-- a label more that is UTF-8
pub utf8_more : (labels : List Label) (n : ℕ) (x : Label) → n < length labels
    → x ≡ get_or labels n x → are_utf8 (pairs_in (take n labels)) ≡ true
    → is_utf8_pair (pair_in x) ≡ true → are_utf8 (pairs_in (take (n + 1) labels)) ≡ true
utf8_more labels n x lt at all one =
    ap are_utf8 (one_pair labels n x lt at)
    ∙ (list_all-append is_utf8_pair (pairs_in (take n labels)) (pair_in x ∷ [])
    ∙ rw (all, one) refl)

-- one that is not
pub utf8_less : (labels : List Label) (n : ℕ) (x : Label) → n < length labels
    → x ≡ get_or labels n x → is_utf8_pair (pair_in x) ≡ false → are_utf8 (pairs_in labels) ≡ false
utf8_less labels n x lt at one =
    list_all-map is_utf8_pair pair_in labels
    ∙ list_all_at (λ (y : Label). is_utf8_pair (pair_in y)) labels n x lt
    (ap (λ (y : Label). is_utf8_pair (pair_in y)) (sym at) ∙ one)

no_utf8_in : (labels : List Label) (n : ℕ) (x : Label) (o : Option Cause) → n < length labels
    → x ≡ get_or labels n x
    → IfSome o (λ c. (c ≡ Text) × (is_utf8_pair (pair_in x) ≡ false))
    → IfSome o (λ c. (c ≡ Text) × (are_utf8 (pairs_in labels) ≡ false))
no_utf8_in labels n x None lt at is = tt
no_utf8_in labels n x (Some c) lt at is = (is.0, utf8_less labels n x lt at is.1)

pub no_utf8 : (labels : List Label) (n : ℕ) (x : Label) (e : NoLabels) → n < length labels
    → x ≡ get_or labels n x → IsNoUtf8 (is_utf8_pair (pair_in x)) e
    → IsNoUtf8 (are_utf8 (pairs_in labels)) e
no_utf8 labels n x e lt at is = no_utf8_in labels n x e.cause lt at is

one_exemplar : (has : Bool) (line : List ℕ) → length (cond has (line ∷ []) []) ≡ from_bool has
one_exemplar true line = refl
one_exemplar false line = refl

exemplars_last : (format : Format) (places : ℕ) (lines : List (List ℕ)) (line : List ℕ)
    → exemplars_in format places (lines ++ line ∷ [])
    ≡ exemplars_in format places lines + from_bool (has_exemplar format places line)
exemplars_last format places lines line =
    let has = has_exemplar format places in
    ap length (filter-append has lines (line ∷ []))
    ∙ length-append (filter has lines) (filter has (line ∷ []))
    ∙ ap (λ (n : ℕ). length (filter has lines) + n) (one_exemplar (has line) line)

-- the exemplars of one line more
pub exemplars_more : (format : Format) (places : ℕ) (lines : List (Bor (List ℕ))) (n count : ℕ)
    (d : Bor (List ℕ)) (has : Bool) (one : ℕ) → n < length lines
    → count ≡ exemplars_in format places (texts_in (take n lines))
    → has ≡ has_exemplar format places (get_or lines n d).now → one ≡ from_bool has
    → count + one ≡ exemplars_in format places (texts_in (take (n + 1) lines))
exemplars_more format places lines n count d has one lt is told e =
    let before = texts_in (take n lines) in
    ap (λ (k : ℕ). k + one) is
    ∙ ap (λ (k : ℕ). exemplars_in format places before + k) (e ∙ ap from_bool told)
    ∙ sym (exemplars_last format places before (get_or lines n d).now)
    ∙ ap (exemplars_in format places)
    (sym (ap texts_in (take_at_read lines n d lt).1
    ∙ map-append (λ (x : Bor (List ℕ)). x.now) (take n lines) (get_or lines n d ∷ [])))

at_most_one : (has : Bool) → from_bool has ≤ 1
at_most_one true = omega arith
at_most_one false = omega arith

pub exemplars_few : (has : Bool) (one n count : ℕ) → one ≡ from_bool has → count ≤ n
    → count + one ≤ n + 1
exemplars_few has one n count e le = omega (arith, le, e, at_most_one has)
