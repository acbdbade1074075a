-- In texts that are written the lines of each metric stand together.
use Rattle.std.proofs.Common.{◌≡◌, ◌⊎◌, ℕ, ℤ, true, false, List, [], ◌∷◌, ◌++◌}
use Rattle.std.proofs.Common.{refl, sym, ap, subst, ◌∙◌, inl, inr}
use Rattle.std.specs.Prelude.{codes, map}
use Rattle.std.specs.List.{AllByRecursion, flat_map}
use Rattle.std.specs.Str.{bytes_eq}
use Rattle.std.proofs.lemmas.Bool.{cases_Bool}
use Rattle.std.proofs.lemmas.List.{append_cancel_right}
use Rattle.std.proofs.lemmas.List.Concat.{flat_map-append}
use Rattle.labels.specs.Rows.{Row}
use Rattle.labels.proofs.Texts.{bytes_exact, bytes_self, bytes_turn}
use Rattle.metrics_writer.specs.Groups.{grouped, is_of, metrics_of, of_metric, other_metrics}
use Rattle.metrics_writer.specs.Series.{metric_of, series_text, fields_text, line_text, row_text}
use Rattle.metrics_writer.specs.Series.{rows_text}
use Rattle.metrics_writer.specs.Texts.{text_of}
use Rattle.metrics_writer.proofs.Grouping.{of_metrics}
use Rattle.open_metrics.specs.Lines.{Sampled}
use Rattle.exposition.specs.Reading.{eof, lines_in}
use Rattle.metrics_laws.specs.Read.{AreSpelled, AreTogether, IsGroupedText, IsWritable, IsWritten}
use Rattle.metrics_laws.specs.Read.{sample_of}
use Rattle.metrics_laws.proofs.Bytes.{IsLine, both_lines, fields_line, series_line}
use Rattle.metrics_laws.proofs.Lines.{line_again}
use Rattle.metrics_laws.proofs.Texts.{AreLines, all_grouped, joined, joined_both, lines_both}
use Rattle.metrics_laws.proofs.Texts.{small_time, split_again}

-- NAMES
-- no name is this one
abbrev IsGone : List ℕ → List (List ℕ) → Type 0
IsGone m names = AllByRecursion (λ (n : List ℕ). bytes_eq m n ≡ false) names

abbrev BeginsWith : List ℕ → List (List ℕ) → Type 0
BeginsWith m [] = ⊥
BeginsWith m (n ∷ ns) = n ≡ m

-- each name is that of the next line, or of no line behind it
abbrev Stand : List (List ℕ) → Type 0
Stand [] = Unit {0}
Stand (n ∷ ns) = (BeginsWith n ns ⊎ IsGone n ns) × Stand ns

not_gone : (m : List ℕ) (xs after : List (List ℕ)) → IsGone m (xs ++ m ∷ after) → ⊥
not_gone m [] after gone = absurd (
    let a = gone.0 in
    let b = bytes_self m in
    cc)
not_gone m (x ∷ xs) after gone = not_gone m xs after gone.1

from_first : (m : List ℕ) (between after : List (List ℕ)) → Stand (m ∷ (between ++ m ∷ after))
    → AllByRecursion (λ (n : List ℕ). n ≡ m) between
from_first m [] after stand = tt
from_first m (x ∷ xs) after stand =
    elim stand.0 [
      | inl e ↦ (
        e,
        from_first m xs after
            (subst (λ (n : List ℕ). Stand (n ∷ (xs ++ m ∷ after))) e stand.1),
      )
      | inr gone ↦ absurd (not_gone m (x ∷ xs) after gone)
    ]

from_any : (before between after : List (List ℕ)) (m : List ℕ)
    → Stand (before ++ (m ∷ (between ++ m ∷ after)))
    → AllByRecursion (λ (n : List ℕ). n ≡ m) between
from_any [] between after m stand = from_first m between after stand
from_any (b ∷ bs) between after m stand = from_any bs between after m stand.1

together : (names : List (List ℕ)) → Stand names → AreTogether names
together names stand before between after m is =
    from_any before between after m (subst Stand is stand)

-- names of one metric before those of others
stand_both : (m : List ℕ) (xs ys : List (List ℕ))
    → AllByRecursion (λ (n : List ℕ). n ≡ m) xs → IsGone m ys → Stand ys → Stand (xs ++ ys)
stand_both m [] ys all gone stand = stand
stand_both m (x ∷ []) ys all gone stand =
    (inr (subst (λ (n : List ℕ). IsGone n ys) (sym all.0) gone), stand)
stand_both m (x ∷ y ∷ xs) ys all gone stand =
    (inl (all.1.0 ∙ sym all.0), stand_both m (y ∷ xs) ys all.1 gone stand)

-- the name of each line of rows
abbrev names_in : Row → List (List ℕ)
names_in row = map (λ (s : ℤ × ℤ). metric_of row.0) row.1

abbrev names_of : List Row → List (List ℕ)
names_of rows = flat_map names_in rows

names_are : (m : List ℕ) (row : Row) (ss : List (ℤ × ℤ)) → is_of m row ≡ true
    → AllByRecursion (λ (n : List ℕ). n ≡ m) (map (λ (s : ℤ × ℤ). metric_of row.0) ss)
names_are m row [] is = tt
names_are m row (s ∷ ss) is =
    (sym (bytes_exact m (metric_of row.0) is), names_are m row ss is)

all_both : (P : List ℕ → Type 0) (xs ys : List (List ℕ)) → AllByRecursion P xs
    → AllByRecursion P ys → AllByRecursion P (xs ++ ys)
all_both P [] ys a b = b
all_both P (x ∷ xs) ys a b = (a.0, all_both P xs ys a.1 b)

all_named : (m : List ℕ) (rows : List Row)
    → AllByRecursion (λ (n : List ℕ). n ≡ m) (names_of (of_metric m rows))
all_named m [] = tt
all_named m (row ∷ rows) =
    elim (cases_Bool (is_of m row)) [
      | inl e ↦ rw e (all_both (λ (n : List ℕ). n ≡ m) (names_in row) (names_of (of_metric m rows))
          (names_are m row row.1 e) (all_named m rows))
      | inr e ↦ rw e (all_named m rows)
    ]

all_gone : (m x : List ℕ) (names : List (List ℕ)) → bytes_eq m x ≡ false
    → AllByRecursion (λ (n : List ℕ). n ≡ x) names → IsGone m names
all_gone m x [] apart all = tt
all_gone m x (n ∷ ns) apart all =
    (subst (λ (k : List ℕ). bytes_eq m k ≡ false) (sym all.0) apart, all_gone m x ns apart all.1)

names_both : (xs ys : List Row) → names_of (xs ++ ys) ≡ names_of xs ++ names_of ys
names_both xs ys = flat_map-append names_in xs ys

others_gone : (m : List ℕ) (rows : List Row) (ms : List (List ℕ)) → IsGone m ms
    → IsGone m (names_of (of_metrics rows ms))
others_gone m rows [] gone = tt
others_gone m rows (x ∷ xs) gone =
    subst (IsGone m) (sym (names_both (of_metric x rows) (of_metrics rows xs)))
    (all_both (λ (n : List ℕ). bytes_eq m n ≡ false) (names_of (of_metric x rows))
    (names_of (of_metrics rows xs))
    (all_gone m x (names_of (of_metric x rows)) gone.0 (all_named x rows))
    (others_gone m rows xs gone.1))

-- each metric once
abbrev AreDistinct : List (List ℕ) → Type 0
AreDistinct [] = Unit {0}
AreDistinct (m ∷ ms) = IsGone m ms × AreDistinct ms

gone_others : (m h : List ℕ) (ms : List (List ℕ)) → IsGone m ms → IsGone m (other_metrics h ms)
gone_others m h [] gone = tt
gone_others m h (x ∷ xs) gone =
    elim (cases_Bool (bytes_eq x h)) [
      | inl e ↦ rw e (gone_others m h xs gone.1)
      | inr e ↦ rw e (gone.0, gone_others m h xs gone.1)
    ]

itself_gone : (h : List ℕ) (ms : List (List ℕ)) → IsGone h (other_metrics h ms)
itself_gone h [] = tt
itself_gone h (x ∷ xs) =
    elim (cases_Bool (bytes_eq x h)) [
      | inl e ↦ rw e (itself_gone h xs)
      | inr e ↦ rw e (bytes_turn h x ∙ e, itself_gone h xs)
    ]

distinct_others : (h : List ℕ) (ms : List (List ℕ)) → AreDistinct ms
    → AreDistinct (other_metrics h ms)
distinct_others h [] are = tt
distinct_others h (x ∷ xs) are =
    elim (cases_Bool (bytes_eq x h)) [
      | inl e ↦ rw e (distinct_others h xs are.1)
      | inr e ↦ rw e (gone_others x h xs are.0, distinct_others h xs are.1)
    ]

metrics_distinct : (rows : List Row) → AreDistinct (metrics_of rows)
metrics_distinct [] = tt
metrics_distinct (row ∷ rows) = (
  itself_gone (metric_of row.0) (metrics_of rows),
  distinct_others (metric_of row.0) (metrics_of rows) (metrics_distinct rows),
)

stand_in : (rows : List Row) (ms : List (List ℕ)) → AreDistinct ms
    → Stand (names_of (of_metrics rows ms))
stand_in rows [] are = tt
stand_in rows (m ∷ ms) are =
    subst Stand (sym (names_both (of_metric m rows) (of_metrics rows ms)))
    (stand_both m (names_of (of_metric m rows)) (names_of (of_metrics rows ms)) (all_named m rows)
    (others_gone m rows ms are.0) (stand_in rows ms are.1))

-- LINES
abbrev names_in_samples : List Sampled → List (List ℕ)
names_in_samples ss = map (λ (s : Sampled). s.name) ss

-- lines of samples with these names
record Lined (places : ℕ) (text : List ℕ) (names : List (List ℕ)) : Type 0 where
  lines : List (List ℕ)
  text_is : text ≡ joined lines
  are : AreLines lines
  samples : List Sampled
  spelled : AreSpelled places lines samples
  named : names_in_samples samples ≡ names

lined_none : (places : ℕ) → Lined places [] []
lined_none places =
    record { lines = []; text_is = refl; are = tt; samples = []; spelled = tt; named = refl }

spelled_both : (places : ℕ) (ls ms : List (List ℕ)) (ss ts : List Sampled)
    → AreSpelled places ls ss → AreSpelled places ms ts → AreSpelled places (ls ++ ms) (ss ++ ts)
spelled_both places [] ms [] ts a b = b
spelled_both places [] ms (s ∷ ss) ts a b = absurd a
spelled_both places (l ∷ ls) ms [] ts a b = absurd a
spelled_both places (l ∷ ls) ms (s ∷ ss) ts a b = (a.0, spelled_both places ls ms ss ts a.1 b)

samples_both : (ss ts : List Sampled)
    → names_in_samples (ss ++ ts) ≡ names_in_samples ss ++ names_in_samples ts
samples_both [] ts = refl
samples_both (s ∷ ss) ts = ap (λ (r : List (List ℕ)). s.name ∷ r) (samples_both ss ts)

lined_both : (places : ℕ) (one two : List ℕ) (xs ys : List (List ℕ)) → Lined places one xs
    → Lined places two ys → Lined places (one ++ two) (xs ++ ys)
lined_both places one two xs ys p q = record {
  lines = p.lines ++ q.lines;
  text_is =
      ap (λ (t : List ℕ). t ++ two) p.text_is
      ∙ (ap (λ (t : List ℕ). joined p.lines ++ t) q.text_is
      ∙ sym (joined_both p.lines q.lines));
  are = lines_both p.lines q.lines p.are q.are;
  samples = p.samples ++ q.samples;
  spelled = spelled_both places p.lines q.lines p.samples q.samples p.spelled q.spelled;
  named =
      samples_both p.samples q.samples
      ∙ (ap (λ (r : List (List ℕ)). r ++ names_in_samples q.samples) p.named
      ∙ ap (λ (r : List (List ℕ)). xs ++ r) q.named);
}

sample_lined : (places : ℕ) (row : Row) (s : ℤ × ℤ) → IsWritable row → IsWritten s
    → Lined places (line_text places (series_text row.0) s) (metric_of row.0 ∷ [])
unfolding line_text
sample_lined places row s is written =
    let small = small_time s.0 written.time in
    let line = line_again places row.0 s is.label_set is.metric small written.value in
    let text = series_text row.0 ++ fields_text places s in
    let same : text ≡ line.0 = append_cancel_right text line.0 (10 ∷ []) line.1 in
    record {
      lines = line.0 ∷ [];
      text_is = line.1;
      are = (
        subst IsLine same
            (both_lines (series_text row.0) (fields_text places s)
            (series_line row.0 is.label_set is.metric) (fields_line places s small written.value)),
        tt,
      );
      samples = sample_of places row.0 s ∷ [];
      spelled = (line.2, tt);
      named = refl;
    }

samples_lined : (places : ℕ) (row : Row) (ss : List (ℤ × ℤ)) → IsWritable row
    → AllByRecursion IsWritten ss
    → Lined places (flat_map (line_text places (series_text row.0)) ss)
    (map (λ (s : ℤ × ℤ). metric_of row.0) ss)
samples_lined places row [] is all = lined_none places
samples_lined places row (s ∷ ss) is all =
    lined_both places (line_text places (series_text row.0) s)
    (flat_map (line_text places (series_text row.0)) ss) (metric_of row.0 ∷ [])
    (map (λ (x : ℤ × ℤ). metric_of row.0) ss) (sample_lined places row s is all.0)
    (samples_lined places row ss is all.1)

row_lined : (places : ℕ) (row : Row) → IsWritable row
    → Lined places (row_text places row) (names_in row)
unfolding row_text
row_lined places row is = samples_lined places row row.1 is is.samples

rows_lined : (places : ℕ) (rows : List Row) → AllByRecursion IsWritable rows
    → Lined places (rows_text places rows) (names_of rows)
unfolding rows_text
rows_lined places [] all = lined_none places
rows_lined places (row ∷ rows) all =
    lined_both places (row_text places row) (rows_text places rows) (names_in row) (names_of rows)
    (row_lined places row all.0) (rows_lined places rows all.1)

pub texts_grouped : (places : ℕ) (rows : List Row) → AllByRecursion IsWritable rows
    → IsGroupedText places (text_of places rows)
texts_grouped places rows all =
    let lined = rows_lined places (grouped rows) (all_grouped rows all) in
    record {
      lines = lined.lines;
      cut = record {
        ending = eof ∷ [] ∷ [];
        parts =
            ap (λ (t : List ℕ). lines_in (t ++ codes "# EOF\n")) lined.text_is
            ∙ split_again lined.lines (codes "# EOF\n") lined.are;
        ends = inr refl;
      };
      samples = lined.samples;
      spelled = lined.spelled;
      together =
          together (names_in_samples lined.samples)
          (subst Stand (sym lined.named) (stand_in rows (metrics_of rows) (metrics_distinct rows)));
    }
