-- The sample that is read of a line that was written, and what is read of a whole text.
use Rattle.std.specs.Prelude.{◌≡◌, ◌^◌, ◌<◌, ◌≤◌, ℕ, ℤ, T, not, true, false, List, []}
use Rattle.std.specs.Prelude.{◌∷◌, ◌++◌, ◌+◌, length, filter, map}
use Rattle.std.specs.Prelude.{unsigned_abs}
use Rattle.std.specs.FinMap.Entries.{is_sorted}
use Rattle.std.specs.List.{AllByRecursion, list_all}
use Rattle.labels.specs.Contents.{Content, is_time}
use Rattle.labels.specs.Labels.{Labels, point_cmp}
use Rattle.labels.specs.LabelSets.{IsLabelSet}
use Rattle.labels.specs.Rows.{Row, AreRows, points_of}
use Rattle.metrics_writer.specs.Numbers.{number_text}
use Rattle.metrics_writer.specs.Series.{is_metric, is_name_label, is_of_metric, metric_of}
use Rattle.metrics_writer.specs.Texts.{text_of}
use Rattle.open_metrics.specs.Grammar.{IsSample}
use Rattle.open_metrics.specs.Lines.{Sampled}
use Rattle.open_metrics.specs.declared.comments.Format.{Format}
use Rattle.open_metrics.specs.declared.comments.Format.TheVariants.{OpenMetrics}
use Rattle.open_metrics.specs.declared.numbers.Value.TheVariants.{Parts}
use Rattle.exposition.specs.declared.text.Fractions.{Fractions}
use Rattle.exposition.specs.declared.text.Reading.TheVariants.{Decimals}
use Rattle.exposition.specs.Faults.{are_utf8}
use Rattle.exposition.specs.Reading.{Said, IsCutInto, IsText, lines_in}
use Rattle.exposition.specs.Rows.{put_each}
use Rattle.exposition.specs.Runs.{count_of}

-- the labels that do not name the metric
abbrev pub others_of : Labels → Labels
others_of labels = filter (λ p. not (is_name_label p)) labels

abbrev pub sample_of : ℕ → Labels → ℤ × ℤ → Sampled
sample_of places labels s = record {
  name = metric_of labels;
  labels = others_of labels;
  value = Parts s.1;
  time = s.0;
  exemplar = false;
  from_value = length (number_text places s.1) + (1 + length (number_text 3 s.0));
  from_time = length (number_text 3 s.0);
}

-- a sample whose time is one, and whose value is not -2^63
pub record IsWritten (s : ℤ × ℤ) : Type 0 where
  pub time : is_time s.0 ≡ true
  pub value : unsigned_abs s.1 < 2 ^ 63

-- a row that can be written: its label set is one of UTF-8 texts and names a metric
pub record IsWritable (row : Row) : Type 0 where
  pub label_set : IsLabelSet row.0
  pub metric : is_metric (metric_of row.0) ≡ true
  pub utf8 : are_utf8 row.0 ≡ true
  pub samples : AllByRecursion IsWritten row.1

-- the samples of rows, of which the last stands at each point, and no others
abbrev pub said_of : List Row → Said
said_of rows = record {
  content = put_each [] (points_of rows);
  count = count_of rows;
  others = [];
  rounded = [];
}

-- the text that is written for rows says their samples, whether fractions are rounded or not
abbrev pub AreReadAgain : Type 0
AreReadAgain = (places : ℕ) (fractions : Fractions) (rows : List Row) → places ≤ 9
    → AllByRecursion IsWritable rows
    → IsText OpenMetrics places (Decimals fractions) (text_of places rows) (said_of rows)

-- each line spells its sample
abbrev pub AreSpelled : ℕ → List (List ℕ) → List Sampled → Type 0
AreSpelled places [] [] = Unit {0}
AreSpelled places [] (s ∷ ss) = ⊥
AreSpelled places (line ∷ lines) [] = ⊥
AreSpelled places (line ∷ lines) (s ∷ ss) =
    IsSample OpenMetrics places line s × AreSpelled places lines ss

-- between two lines of one metric stand only lines of this metric
abbrev pub AreTogether : List (List ℕ) → Type 0
AreTogether names = (before between after : List (List ℕ)) (name : List ℕ)
    → names ≡ before ++ (name ∷ (between ++ name ∷ after))
    → AllByRecursion (λ (n : List ℕ). n ≡ name) between

-- before its end a text of OpenMetrics has samples alone, and the lines of each metric stand
-- together
pub record IsGroupedText (places : ℕ) (text : List ℕ) : Type 0 where
  pub lines : List (List ℕ)
  pub cut : IsCutInto OpenMetrics (lines_in text) lines
  pub samples : List Sampled
  pub spelled : AreSpelled places lines samples
  pub together : AreTogether (map (λ s. s.name) samples)

-- in the text that is written for rows the lines of each metric stand together
abbrev pub AreGroupedTexts : Type 0
AreGroupedTexts = (places : ℕ) (rows : List Row) → places ≤ 9 → AllByRecursion IsWritable rows
    → IsGroupedText places (text_of places rows)

-- the samples of the rows of a content are the content
abbrev pub AreAllSaid : Type 0
AreAllSaid = (rows : List Row) (c : Content) → T (is_sorted point_cmp c) → AreRows rows c
    → put_each [] (points_of rows) ≡ c

-- the rows of what a text says, whichever its format: each names a metric, and the text that is
-- written for them says the same samples
abbrev pub AreWrittenAgain : Type 0
AreWrittenAgain = (format : Format) (places : ℕ) (fractions : Fractions) (text : List ℕ)
    (said : Said) (rows : List Row) → IsText format places (Decimals fractions) text said
    → AreRows rows said.content
    → (list_all is_of_metric rows ≡ true)
    × IsText OpenMetrics places (Decimals fractions) (text_of places rows)
    (record { content = said.content; count = count_of rows; others = []; rounded = [] })
