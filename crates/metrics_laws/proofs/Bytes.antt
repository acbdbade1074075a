-- Lines that are written have no end of a line among their bytes.
use Rattle.std.proofs.Common.{◌≡◌, ℕ, zero, suc, ◌<◌, ◌/◌, ◌^◌, ℤ, pos, negsuc, true, false, eqb, List}
use Rattle.std.proofs.Common.{[], ◌∷◌, ◌++◌, refl, sym, subst, ◌∙◌, inl, inr, arith}
use Rattle.std.specs.Prelude.{decimal, unsigned_abs, IsTrue}
use Rattle.std.specs.List.{AllByRecursion}
use Rattle.std.proofs.lemmas.Bool.{cases_Bool, eqb-true, ne_eqb}
use Rattle.std.proofs.lemmas.List.Elements.{recursion_from_All}
use Rattle.decimal_text.specs.Decimals.{AreDigits}
use Rattle.labels.specs.Labels.{Labels}
use Rattle.labels.specs.LabelSets.{IsLabelSet}
use Rattle.labels.specs.Names.{is_name}
use Rattle.metrics_writer.specs.Numbers.{fraction_of, last_digits, number_text, size_text}
use Rattle.metrics_writer.specs.Series.{is_metric, metric_of, escape, escaped_text, pair_text}
use Rattle.metrics_writer.specs.Series.{is_name_label, label_text, mark_after, closing, labels_text}
use Rattle.metrics_writer.specs.Series.{series_text, fields_text}
use Rattle.open_metrics.specs.declared.tokens.Class.{Class}
use Rattle.open_metrics.specs.declared.tokens.Class.TheVariants.{Metric, Label}
use Rattle.open_metrics.specs.Grammar.{AreIn}
use Rattle.open_metrics.specs.Labels.{Pair}
use Rattle.open_metrics.specs.Tokens.{goes_on}
use Rattle.metrics_laws.proofs.Digits.{decimal_is, last_are}
use Rattle.metrics_laws.proofs.Lines.{label_name, metric_name}
use Rattle.metrics_laws.proofs.Numbers.{digit_low, whole_small}

-- no byte is the end of a line
abbrev pub IsLine : List ℕ → Type 0
IsLine bytes = AllByRecursion (λ (c : ℕ). eqb c 10 ≡ false) bytes

pub both_lines : (xs ys : List ℕ) → IsLine xs → IsLine ys → IsLine (xs ++ ys)
both_lines [] ys a b = b
both_lines (x ∷ xs) ys a b = (a.0, both_lines xs ys a.1 b)

digits_line : (ds : List ℕ) → AreDigits ds → IsLine ds
digits_line [] are = tt
digits_line (c ∷ cs) are =
    let low = digit_low c are.0 in
    (ne_eqb c 10 (λ e. omega (arith, e, low)), digits_line cs are.1)

fraction_line : (places n : ℕ) → IsLine (fraction_of places n)
fraction_line zero n = tt
fraction_line (suc k) n = (refl, digits_line (last_digits (suc k) n) (last_are (suc k) n))

size_line : (places n : ℕ) → n < 2 ^ 63 → IsLine (size_text places n)
unfolding size_text
size_line places n lt =
    let d = decimal_is (n / 10 ^ places) (whole_small places n lt) in
    both_lines (decimal (n / 10 ^ places)) (fraction_of places n)
    (digits_line (decimal (n / 10 ^ places)) d.digits) (fraction_line places n)

number_line : (places : ℕ) (v : ℤ) → unsigned_abs v < 2 ^ 63 → IsLine (number_text places v)
unfolding number_text
number_line places (pos n) lt = size_line places n lt
number_line places (negsuc n) lt = (refl, size_line places (suc n) lt)

-- the end of a line is not in a word that it does not go on with
word_byte : (class : Class) → goes_on class 10 ≡ false → (c : ℕ) → goes_on class c ≡ true
    → eqb c 10 ≡ false
word_byte class none c h =
    elim (cases_Bool (eqb c 10)) [
      | inl e ↦ absurd (let f : goes_on class 10 ≡ true =
          subst (λ (x : ℕ). goes_on class x ≡ true) (eqb-true c 10 e) h in
          let g : true ≡ false = sym f ∙ none in cc)
      | inr e ↦ e
    ]

word_line : (class : Class) → goes_on class 10 ≡ false → (word : List ℕ) → AreIn class word
    → IsLine word
word_line class none [] are = tt
word_line class none (c ∷ cs) are = (word_byte class none c are.0, word_line class none cs are.1)

escape_line : (c : ℕ) → IsLine (escape c)
escape_line c =
    elim (cases_Bool (eqb c 92)) [
      | inl e ↦ rw e (refl, (refl, tt))
      | inr e ↦ elim (cases_Bool (eqb c 34)) [
        | inl f ↦ rw (e, f) (refl, (refl, tt))
        | inr f ↦ elim (cases_Bool (eqb c 10)) [
          | inl g ↦ rw (e, f, g) (refl, (refl, tt))
          | inr g ↦ rw (e, f, g) (g, tt)
        ]
      ]
    ]

escaped_line : (cs : List ℕ) → IsLine (escaped_text cs)
unfolding escaped_text
escaped_line [] = tt
escaped_line (c ∷ cs) = both_lines (escape c) (escaped_text cs) (escape_line c) (escaped_line cs)

pair_line : (p : Pair) → is_name p.0 ≡ true → IsLine (pair_text p)
unfolding pair_text
pair_line p named =
    both_lines (p.0 ++ (61 ∷ 34 ∷ escaped_text p.1)) (34 ∷ [])
    (both_lines p.0 (61 ∷ 34 ∷ escaped_text p.1)
    (word_line Label refl p.0 (label_name p.0 named).in_class) (refl, (refl, escaped_line p.1)))
    (refl, tt)

label_text_line : (mark : ℕ) (p : Pair) → eqb mark 10 ≡ false → is_name p.0 ≡ true
    → IsLine (label_text mark p)
label_text_line mark p m named =
    elim (cases_Bool (is_name_label p)) [
      | inl e ↦ rw e tt
      | inr e ↦ rw e (m, pair_line p named)
    ]

after_mark : (mark : ℕ) (p : Pair) → eqb mark 10 ≡ false → eqb (mark_after mark p) 10 ≡ false
after_mark mark p m =
    elim (cases_Bool (is_name_label p)) [
      | inl e ↦ rw e m
      | inr e ↦ rw e refl
    ]

closing_line : (mark : ℕ) → IsLine (closing mark)
closing_line mark =
    elim (cases_Bool (eqb mark 123)) [
      | inl e ↦ rw e tt
      | inr e ↦ rw e (refl, tt)
    ]

labels_line : (mark : ℕ) (ps : Labels) → eqb mark 10 ≡ false
    → AllByRecursion (λ (p : Pair). IsTrue (is_name p.0)) ps → IsLine (labels_text mark ps)
unfolding labels_text
labels_line mark [] m named = closing_line mark
labels_line mark (p ∷ ps) m named =
    both_lines (label_text mark p) (labels_text (mark_after mark p) ps)
    (label_text_line mark p m named.0)
    (labels_line (mark_after mark p) ps (after_mark mark p m) named.1)

pub series_line : (labels : Labels) → IsLabelSet labels → is_metric (metric_of labels) ≡ true
    → IsLine (series_text labels)
unfolding series_text
series_line labels set metric =
    both_lines (metric_of labels) (labels_text 123 labels)
    (word_line Metric refl (metric_of labels) (metric_name (metric_of labels) metric).in_class)
    (labels_line 123 labels refl (recursion_from_All _ labels set.named))

pub fields_line : (places : ℕ) (s : ℤ × ℤ) → unsigned_abs s.0 < 2 ^ 63 → unsigned_abs s.1 < 2 ^ 63
    → IsLine (fields_text places s)
unfolding fields_text
fields_line places s t v =
    both_lines (32 ∷ number_text places s.1) (32 ∷ number_text 3 s.0)
    (refl, number_line places s.1 v) (refl, number_line 3 s.0 t)
