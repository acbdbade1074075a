-- Lines that are written are read again.
use Rattle.std.proofs.Common.{◌≡◌, ℕ, ◌<◌, ◌≤◌, ℤ, Bool, true, false, eqb, leb, ◌&&◌}
use Rattle.std.proofs.Common.{◌||◌}
use Rattle.std.proofs.Common.{not, List, [], ◌∷◌, ◌++◌, length, refl, ap, ◌∙◌}
use Rattle.std.proofs.Common.{inl, inr}
use Rattle.std.proofs.Common.{append_assoc, length-append, arith, ◌^◌}
use Rattle.std.specs.Prelude.{unsigned_abs, IsTrue}
use Rattle.std.specs.List.{AllByRecursion, list_all}
use Rattle.std.specs.Char.{is_ascii_alphabetic, is_ascii_digit}
use Rattle.std.proofs.lemmas.Bool.{cases_Bool, leb-true, and_parts}
use Rattle.std.proofs.lemmas.List.Elements.{recursion_from_All}
use Rattle.labels.specs.Labels.{Labels}
use Rattle.labels.specs.LabelSets.{IsLabelSet}
use Rattle.labels.specs.Names.{is_name, starts_name, continues_name}
use Rattle.metrics_writer.specs.Numbers.{number_text}
use Rattle.metrics_writer.specs.Series.{in_metric, is_metric, metric_of, escape, escaped_text}
use Rattle.metrics_writer.specs.Series.{pair_text, is_name_label, labels_text, series_text}
use Rattle.metrics_writer.specs.Series.{fields_text, line_text}
use Rattle.open_metrics.specs.declared.comments.Format.TheVariants.{OpenMetrics}
use Rattle.open_metrics.specs.declared.tokens.Class.TheVariants.{Metric, Label}
use Rattle.open_metrics.specs.Grammar.{AreIn, IsName, escape_then, SpellsText, SpellsPair}
use Rattle.open_metrics.specs.Grammar.{SpellsOthers, SpellsLabels, IsSample}
use Rattle.open_metrics.specs.Labels.{Pair}
use Rattle.metrics_laws.specs.Read.{others_of, sample_of}
use Rattle.metrics_laws.proofs.Numbers.{number_again, number_word}

escape_is : (c : ℕ) (rest : List ℕ) → escape c ++ rest ≡ escape_then c rest
escape_is c rest =
    elim (cases_Bool (eqb c 92)) [
      | inl e ↦ rw e refl
      | inr e ↦ elim (cases_Bool (eqb c 34)) [
        | inl f ↦ rw (e, f) refl
        | inr f ↦ elim (cases_Bool (eqb c 10)) [
          | inl g ↦ rw (e, f, g) refl
          | inr g ↦ rw (e, f, g) refl
        ]
      ]
    ]

text_is : (cs rest : List ℕ) → SpellsText cs rest (escaped_text cs ++ (34 ∷ rest))
unfolding escaped_text
text_is [] rest = refl
text_is (c ∷ cs) rest =
    let after = escaped_text cs ++ (34 ∷ rest) in (
      after,
      inl (append_assoc (escape c) (escaped_text cs) (34 ∷ rest) ∙ escape_is c after),
      text_is cs rest,
    )

pair_spelled : (p : Pair) (rest : List ℕ) → SpellsPair OpenMetrics p rest (pair_text p ++ rest)
unfolding pair_text
pair_spelled p rest = record {
  before = [];
  between = [];
  behind = [];
  value = escaped_text p.1 ++ (34 ∷ rest);
  before_blank = refl;
  between_blank = refl;
  behind_blank = refl;
  value_is = text_is p.1 rest;
  text = simp append_assoc;
}

others_are : (ps : Labels) (rest : List ℕ)
    → SpellsOthers OpenMetrics (others_of ps) rest (labels_text 44 ps ++ rest)
unfolding labels_text
others_are [] rest = ([], 125 ∷ [], refl, refl, refl)
others_are (p ∷ ps) rest =
    elim (cases_Bool (is_name_label p)) [
      | inl e ↦ rw e (others_are ps rest)
      | inr e ↦
          let after = labels_text 44 ps ++ rest in
          rw e (
            [],
            pair_text p ++ after,
            after,
            refl,
            ap (λ (r : List ℕ). 44 ∷ r) (append_assoc (pair_text p) (labels_text 44 ps) rest),
            pair_spelled p after,
            others_are ps rest,
          )
    ]

pub labels_spell : (ps : Labels) (rest : List ℕ)
    → SpellsLabels OpenMetrics (others_of ps) rest (labels_text 123 ps ++ rest)
unfolding labels_text
labels_spell [] rest = inr (refl, refl)
labels_spell (p ∷ ps) rest =
    elim (cases_Bool (is_name_label p)) [
      | inl e ↦ rw e (labels_spell ps rest)
      | inr e ↦
          let after = labels_text 44 ps ++ rest in
          rw e
          (inl (
            pair_text p ++ after,
            ap (λ (r : List ℕ). 123 ∷ r) (append_assoc (pair_text p) (labels_text 44 ps) rest),
            (after, pair_spelled p after, others_are ps rest),
          ))
    ]

metric_bytes : (cs : List ℕ) → list_all in_metric cs ≡ true → AreIn Metric cs
metric_bytes [] all = tt
metric_bytes (c ∷ cs) all =
    let p = and_parts (in_metric c) (list_all in_metric cs) all in
    (p.0, metric_bytes cs p.1)

pub metric_name : (name : List ℕ) → is_metric name ≡ true → IsName Metric name
metric_name [] h = absurd cc
metric_name (c ∷ cs) h =
    let p = and_parts (not (is_ascii_digit c)) (in_metric c && list_all in_metric cs) h in
    record { in_class = metric_bytes (c ∷ cs) p.1; begun = p.0 }

shuffled : (a b d : Bool) → ((a || b) || d) ≡ true → (a || (d || b)) ≡ true
shuffled true b d h = refl
shuffled false true true h = refl
shuffled false true false h = refl
shuffled false false true h = refl
shuffled false false false h = absurd cc

label_bytes : (cs : List ℕ) → list_all continues_name cs ≡ true → AreIn Label cs
label_bytes [] all = tt
label_bytes (c ∷ cs) all =
    let p = and_parts (continues_name c) (list_all continues_name cs) all in
    (shuffled (is_ascii_alphabetic c) (eqb c 95) (is_ascii_digit c) p.0, label_bytes cs p.1)

begins : (a b d : Bool) → (a || b) ≡ true → (a || (d || b)) ≡ true
begins true b d h = refl
begins false true true h = refl
begins false true false h = refl
begins false false d h = absurd cc

no_digit : (c : ℕ) → starts_name c ≡ true → not (is_ascii_digit c) ≡ true
no_digit c h =
    elim (cases_Bool (is_ascii_digit c)) [
      | inl e ↦ absurd (
          let d = and_parts (leb 48 c) (leb c 57) e in
          let high = leb-true c 57 d.1 in
          grind arith)
      | inr e ↦ rw e refl
    ]

pub label_name : (name : List ℕ) → is_name name ≡ true → IsName Label name
label_name [] h = absurd cc
label_name (c ∷ cs) h =
    let p = and_parts (starts_name c) (list_all continues_name cs) h in
    record {
      in_class = (
        begins (is_ascii_alphabetic c) (eqb c 95) (is_ascii_digit c) p.0,
        label_bytes cs
            p.1,
      );
      begun = no_digit c p.0;
    }

names_in : (ps : Labels) → AllByRecursion (λ (p : Pair). IsTrue (is_name p.0)) ps
    → AllByRecursion (λ (p : Pair). IsName Label p.0) (others_of ps)
names_in [] all = tt
names_in (p ∷ ps) all =
    elim (cases_Bool (is_name_label p)) [
      | inl e ↦ rw e (names_in ps all.1)
      | inr e ↦ rw e (label_name p.0 all.0, names_in ps all.1)
    ]

fewer : (ps : Labels) → length (others_of ps) ≤ length ps
fewer [] = omega arith
fewer (p ∷ ps) =
    let h = fewer ps in
    elim (cases_Bool (is_name_label p)) [
      | inl e ↦ rw e (omega (arith, h))
      | inr e ↦ rw e (omega (arith, h))
    ]

pub line_again : (places : ℕ) (labels : Labels) (s : ℤ × ℤ) → IsLabelSet labels
    → is_metric (metric_of labels) ≡ true → unsigned_abs s.0 < 2 ^ 63 → unsigned_abs s.1 < 2 ^ 63
    → (line : List ℕ) × (line_text places (series_text labels) s ≡ line ++ 10 ∷ [])
    × IsSample OpenMetrics places line (sample_of places labels s)
unfolding line_text fields_text series_text
line_again places labels s set named t_small v_small =
    let value = number_text places s.1 in
    let time = number_text 3 s.0 in
    let nil : List ℕ = [] in
    let from_value = value ++ (32 ∷ (time ++ nil)) in
    let from_labels = labels_text 123 labels ++ (32 ∷ from_value) in
    let line = metric_of labels ++ from_labels in (
      line,
      (simp append_assoc),
      record {
        lead = nil;
        from_labels = from_labels;
        gap = 32 ∷ nil;
        value = value;
        pause = 32 ∷ nil;
        time = time;
        tail = nil;
        line_is = refl;
        lead_is = refl;
        name_is = metric_name (metric_of labels) named;
        labels_are = labels_spell labels (32 ∷ from_value);
        label_names = names_in labels (recursion_from_All _ labels set.named);
        few = omega (arith, fewer labels, set.few);
        gap_is = refl;
        pause_is = refl;
        value_word = number_word places s.1 v_small;
        value_is = number_again places s.1 v_small;
        time_word = number_word 3 s.0 t_small;
        time_is = number_again 3 s.0 t_small;
        tail_is = refl;
        value_from =
            omega (arith, length-append value (32 ∷ (time ++ nil)), length-append time nil);
        time_from = omega (arith, length-append time nil);
      },
    )
