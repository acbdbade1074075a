-- Samples that are read can be written.
use Rattle.std.specs.Prelude.{◌≡◌, ℕ, ◌+◌, ◌<◌, ◌^◌, ℤ, true, not, ◌&&◌, T, List}
use Rattle.std.specs.Prelude.{[], ◌∷◌, ◌++◌, Option, None, Some, refl, unsigned_abs}
use Rattle.std.proofs.Common.{sym, ap, subst, ◌∙◌, inl, inr}
use Rattle.std.specs.Char.{is_ascii_digit}
use Rattle.std.specs.List.{AllByRecursion, list_all}
use Rattle.std.specs.declared.cmp.Ordering.TheVariants.{Less, Equal, Greater}
use Rattle.std.specs.FinMap.Entries.{put, by_order, is_sorted, is_sorted-put}
use Rattle.std.proofs.lemmas.Bool.{and_from, and_parts, cases_Bool}
use Rattle.std.proofs.lemmas.List.Sorted.{All-permutation}
use Rattle.std.proofs.lemmas.List.Sums.{AllPass-from_list_all, list_all-from_AllPass}
use Rattle.labels.specs.Contents.{Content, is_time}
use Rattle.labels.specs.Labels.{Labels, Point, point_cmp}
use Rattle.labels.specs.LabelSets.{IsLabelSet, IsMadeOf, has_value, with_values}
use Rattle.labels.specs.Rows.{Row, AreFull, AreRows, points_in, points_of}
use Rattle.labels.proofs.OrderLaws.{point_total}
use Rattle.metrics_writer.specs.Series.{in_metric, is_metric, is_of_metric, metric_of, name_label}
use Rattle.metrics_writer.specs.Texts.{text_of}
use Rattle.open_metrics.specs.declared.comments.Format.{Format}
use Rattle.open_metrics.specs.declared.comments.Format.TheVariants.{OpenMetrics}
use Rattle.open_metrics.specs.declared.numbers.Value.{Value}
use Rattle.open_metrics.specs.declared.numbers.Value.TheVariants.{Parts, Near, Other}
use Rattle.open_metrics.specs.declared.tokens.Class.TheVariants.{Metric}
use Rattle.open_metrics.specs.Grammar.{AreIn, IfSampled, IsName, IsSample}
use Rattle.open_metrics.specs.Labels.{Pair}
use Rattle.open_metrics.specs.Lines.{Sampled, Meaning, nothing, end, sampled}
use Rattle.open_metrics.proofs.Whole.{line_takes}
use Rattle.exposition.specs.declared.error.Cause.{Cause}
use Rattle.exposition.specs.declared.text.Fractions.{Fractions}
use Rattle.exposition.specs.declared.text.Reading.TheVariants.{Decimals}
use Rattle.exposition.specs.declared.text.Fractions.TheVariants.{Beside, Rounded}
use Rattle.exposition.specs.declared.text.Left.{Left}
use Rattle.exposition.specs.Faults.{are_utf8, is_utf8_pair, or_time, pairs_fault, pairs_of_sample}
use Rattle.exposition.specs.Reading.{Said, AddsValue, AddsSample, Adds, AddAll, IsText}
use Rattle.exposition.specs.Reading.{place_of, unsaid}
use Rattle.exposition.specs.Runs.{count_of}
use Rattle.metrics_laws.specs.Read.{IsWritten, IsWritable}
use Rattle.metrics_laws.proofs.Small.{IsSmall, number_small}
use Rattle.metrics_laws.proofs.Texts.{all_said, texts_again}

-- a sample that can be written
record Fits (e : Point × ℤ) : Type 0 where
  label_set : IsLabelSet e.0.0
  metric : is_metric (metric_of e.0.0) ≡ true
  utf8 : are_utf8 e.0.0 ≡ true
  time : is_time e.0.1 ≡ true
  value : unsigned_abs e.1 < 2 ^ 63

abbrev AllFit : Content → Type 0
AllFit c = AllByRecursion Fits c

-- samples that can be written, in their order
record Holds (c : Content) : Type 0 where
  fit : AllFit c
  rise : T (is_sorted point_cmp c)

other_value : (p : Point) (v w : ℤ) → Fits (p, v) → unsigned_abs w < 2 ^ 63 → Fits (p, w)
other_value p v w fits small = record {
  label_set = fits.label_set;
  metric = fits.metric;
  utf8 = fits.utf8;
  time = fits.time;
  value = small;
}

put_fits : (p : Point) (v : ℤ) (c : Content) → Fits (p, v) → AllFit c
    → AllFit (put point_cmp p v c)
put_fits p v [] fits all = (fits, tt)
put_fits p v (e ∷ es) fits all =
    elim (point_cmp p e.0) as (λ o. AllFit (by_order o ((p, v) ∷ e ∷ es) ((e.0, v) ∷ es)
    (e ∷ put point_cmp p v es))) [
      | Less ↦ (fits, all)
      | Equal ↦ (other_value e.0 e.1 v all.0 fits.value, all.1)
      | Greater ↦ (all.0, put_fits p v es fits all.1)
    ]

put_holds : (p : Point) (v : ℤ) (c : Content) → Fits (p, v) → Holds c
    → Holds (put point_cmp p v c)
put_holds p v c fits holds = record {
  fit = put_fits p v c fits holds.fit;
  rise = is_sorted-put point_cmp point_total p v c holds.rise;
}

-- the labels of a sample that is read
metric_all : (cs : List ℕ) → AreIn Metric cs → list_all in_metric cs ≡ true
metric_all [] are = refl
metric_all (c ∷ cs) are = and_from (in_metric c) (list_all in_metric cs) are.0 (metric_all cs are.1)

name_metric : (name : List ℕ) → IsName Metric name → is_metric name ≡ true
name_metric [] is = absurd (let b = is.begun in cc)
name_metric (c ∷ cs) is =
    and_from (not (is_ascii_digit c)) (in_metric c && list_all in_metric cs) is.begun
    (metric_all (c ∷ cs) is.in_class)

utf8_kept : (ps : List Pair) → are_utf8 ps ≡ true → are_utf8 (with_values ps) ≡ true
utf8_kept [] h = refl
utf8_kept (p ∷ ps) h =
    let a = and_parts (is_utf8_pair p) (are_utf8 ps) h in
    elim (cases_Bool (has_value p)) [
      | inl e ↦ rw e (and_from (is_utf8_pair p) (are_utf8 (with_values ps)) a.0 (utf8_kept ps a.1))
      | inr e ↦ rw e (utf8_kept ps a.1)
    ]

utf8_made : (labels : Labels) (ps : List Pair) → IsMadeOf labels ps → are_utf8 ps ≡ true
    → are_utf8 labels ≡ true
utf8_made labels ps made h =
    list_all-from_AllPass is_utf8_pair labels
    (All-permutation (λ (p : Pair). is_utf8_pair p ≡ true) (with_values ps) labels made.same_pairs
    (AllPass-from_list_all is_utf8_pair (with_values ps) (utf8_kept ps h)))

utf8_pairs : (ps : List Pair) → pairs_fault ps ≡ None → are_utf8 ps ≡ true
utf8_pairs ps h =
    elim (cases_Bool (are_utf8 ps)) [
      | inl e ↦ e
      | inr e ↦ absurd (let f = rw e at h in cc)
    ]

no_fault : (line : List ℕ) (s : Sampled) (o : Option Cause) → or_time line s o ≡ None
    → (o ≡ None) × (is_time s.time ≡ true)
no_fault line s (Some cause) h = absurd cc
no_fault line s None h =
    elim (cases_Bool (is_time s.time)) [
      | inl e ↦ (refl, e)
      | inr e ↦ absurd (let f = rw e at h in cc)
    ]

sample_fits : (f : Fractions) (n : ℕ) (line : List ℕ) (s : Sampled) (old new : Said)
    → IsName Metric s.name → (a : AddsSample (Decimals f) n line s old new) → (v : ℤ)
    → unsigned_abs v < 2 ^ 63 → Fits ((a.labels, s.time), v)
sample_fits f n line s old new is a v small =
    let pairs = pairs_of_sample s in
    let none = no_fault line s (pairs_fault pairs) a.faultless in
    let name : metric_of a.labels ≡ s.name = a.made.values name_label in
    record {
      label_set = a.made.label_set;
      metric = ap is_metric name ∙ name_metric s.name is;
      utf8 = utf8_made a.labels pairs a.made (utf8_pairs pairs none.0);
      time = none.1;
      value = small;
    }

value_holds : (f : Fractions) (x : Value) (l : Labels) (place : Left) (old new : Said)
    → ((v : ℤ) → unsigned_abs v < 2 ^ 63 → Fits ((l, place.t), v)) → IsSmall x
    → AddsValue f x l place old new → Holds old.content → Holds new.content
value_holds f (Parts v) l place old new fits small a holds =
    subst Holds (sym a.0.0) (put_holds (l, place.t) v old.content (fits v small) holds)
value_holds Rounded (Near v) l place old new fits small a holds =
    subst Holds (sym a.0.0) (put_holds (l, place.t) v old.content (fits v small) holds)
value_holds Beside (Near v) l place old new fits small a holds = subst Holds (sym a.0) holds
value_holds f Other l place old new fits small a holds = subst Holds (sym a.0) holds

meaning_holds : (format : Format) (places : ℕ) (f : Fractions) (n : ℕ) (line : List ℕ)
    (m : Meaning) (old new : Said) → IfSampled m (IsSample format places line)
    → Adds (Decimals f) n line m old new → Holds old.content → Holds new.content
meaning_holds format places f n line nothing old new is a holds =
    subst (λ (x : Said). Holds x.content) (sym a) holds
meaning_holds format places f n line end old new is a holds = absurd a
meaning_holds format places f n line (sampled s) old new is a holds =
    value_holds f a.value a.labels (place_of n line s) old new
    (sample_fits f n line s old new is.name_is a)
    (subst IsSmall (sym a.is) (number_small is.value places s.value is.value_is)) a.adds holds

all_hold : (format : Format) (places : ℕ) (f : Fractions) (n : ℕ) (lines : List (List ℕ))
    (old new : Said) → AddAll format places (Decimals f) n lines old new → Holds old.content
    → Holds new.content
all_hold format places f n [] old new a holds =
    subst (λ (x : Said). Holds x.content) (sym a) holds
all_hold format places f n (line ∷ lines) old new a holds =
    all_hold format places f (n + 1) lines a.0 new a.2
    (meaning_holds format places f n line a.1.meaning old a.0
    (line_takes format places line a.1.meaning a.1.read) a.1.adds holds)

text_holds : (format : Format) (places : ℕ) (f : Fractions) (text : List ℕ) (said : Said)
    → IsText format places (Decimals f) text said → Holds said.content
text_holds format places f text said is =
    all_hold format places f 1 is.lines unsaid said is.says (record { fit = tt; rise = tt })

-- the rows of such samples
record Samples (ss : List (ℤ × ℤ)) (rest : Content) : Type 0 where
  written : AllByRecursion IsWritten ss
  others : AllFit rest

samples_fit : (l : Labels) (ss : List (ℤ × ℤ)) (rest : Content) → AllFit (points_in l ss ++ rest)
    → Samples ss rest
samples_fit l [] rest all = record { written = tt; others = all }
samples_fit l (s ∷ ss) rest all =
    let more = samples_fit l ss rest all.1 in
    record {
      written = (record { time = all.0.time; value = all.0.value }, more.written);
      others = more.others;
    }

rows_fit : (rows : List Row) → AreFull rows → AllFit (points_of rows)
    → AllByRecursion IsWritable rows
rows_fit [] full all = tt
rows_fit ((l, []) ∷ rows) full all = absurd (full.0 refl)
rows_fit ((l, s ∷ ss) ∷ rows) full all =
    let x = samples_fit l (s ∷ ss) (points_of rows) all in (
      record {
        label_set = all.0.label_set;
        metric = all.0.metric;
        utf8 = all.0.utf8;
        samples = x.written;
      },
      rows_fit rows full.1 x.others,
    )

metrics_all : (rows : List Row) → AllByRecursion IsWritable rows
    → list_all is_of_metric rows ≡ true
metrics_all [] all = refl
metrics_all (row ∷ rows) all =
    and_from (is_of_metric row) (list_all is_of_metric rows) all.0.metric (metrics_all rows all.1)

pub written_again : (format : Format) (places : ℕ) (f : Fractions) (text : List ℕ) (said : Said)
    (rows : List Row) → IsText format places (Decimals f) text said → AreRows rows said.content
    → (list_all is_of_metric rows ≡ true)
    × IsText OpenMetrics places (Decimals f) (text_of places rows)
    (record { content = said.content; count = count_of rows; others = []; rounded = [] })
written_again format places f text said rows is are =
    let holds = text_holds format places f text said is in
    let fit = subst AllFit (sym are.points) holds.fit in
    let all = rows_fit rows are.full fit in (
      metrics_all rows all,
      subst (λ (c : Content). IsText OpenMetrics places (Decimals f) (text_of places rows)
          (record { content = c; count = count_of rows; others = []; rounded = [] }))
          (all_said rows said.content holds.rise are.points) (texts_again places f rows all),
    )
