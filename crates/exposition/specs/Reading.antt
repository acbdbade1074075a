-- The samples of a text.
use Rattle.std.specs.Prelude.{◌≡◌, ◌⊎◌, ◌==◌, ℕ, ◌+◌, ℤ, List, [], ◌∷◌, ◌++◌, map, reverse}
use Rattle.std.specs.Prelude.{codes, Bool, false, filter, length, None, Result, Ok, Err}
use Rattle.std.specs.Borrow.{Bor}
use Rattle.std.specs.List.{slice_split}
use Rattle.std.specs.FinMap.Entries.{put}
use Rattle.double_text.specs.Texts.{double_at}
use Rattle.labels.specs.Contents.{Content}
use Rattle.labels.specs.Labels.{Labels, point_cmp}
use Rattle.labels.specs.LabelSets.{IsMadeOf}
use Rattle.labels.specs.Rows.{Row}
use Rattle.open_metrics.specs.declared.comments.Format.{Format}
use Rattle.open_metrics.specs.declared.comments.Format.TheVariants.{OpenMetrics, Prometheus}
use Rattle.open_metrics.specs.declared.error.Fault.{Fault}
use Rattle.open_metrics.specs.declared.numbers.Value.{Value}
use Rattle.open_metrics.specs.declared.numbers.Value.TheVariants.{Parts, Near, Other}
use Rattle.open_metrics.specs.Lines.{Sampled, Meaning, nothing, end, sampled, line_at}
use Rattle.exposition.specs.declared.text.Exposition.{Exposition}
use Rattle.exposition.specs.declared.text.Fractions.{Fractions}
use Rattle.exposition.specs.declared.text.Fractions.TheVariants.{Beside, Rounded}
use Rattle.exposition.specs.declared.text.Gathered.{Gathered}
use Rattle.exposition.specs.declared.text.Left.{Left}
use Rattle.exposition.specs.declared.text.Reading.{Reading}
use Rattle.exposition.specs.declared.text.Reading.TheVariants.{Decimals, Doubles}
use Rattle.exposition.specs.Faults.{column_of, pairs_of_sample, sample_fault}
use Rattle.exposition.specs.Runs.{content_of, count_of}
use Rattle.exposition.specs.Values.{IsKeptFor, text_before}

-- what lines say: the samples that have a number of parts, of which the later stands; how many such
-- lines there are; the other samples with their places, in their order; and the places of those
-- that were rounded to a number of parts
pub record Said : Type 0 where
  pub content : Content
  pub count : ℕ
  pub others : List Left
  pub rounded : List Left

-- what rows hold, of which the first counts, other samples, and those that were rounded
abbrev pub told_by : List Row → List Left → List Left → Said
told_by rows others rounded = record {
  content = content_of rows;
  count = count_of rows;
  others = others;
  rounded = rounded;
}

abbrev pub told_in : Exposition → Said
told_in e = told_by e.rows.items e.others.items e.rounded.items

-- the same of runs, of which the last counts
abbrev pub said_in : Gathered → Said
said_in g = told_by (reverse g.runs) g.others.items g.rounded.items

-- a number of parts is put over the samples before
abbrev pub IsPutOver : ℤ → Labels → Left → Said → Said → Type 0
IsPutOver v labels place old new =
    (new.content ≡ put point_cmp (labels, place.t) v old.content)
    × (new.count ≡ old.count + 1) × (new.others ≡ old.others)

-- a value is told beside the samples
abbrev pub IsBeside : Left → Said → Said → Type 0
IsBeside place old new =
    (new.content ≡ old.content) × (new.count ≡ old.count)
    × (new.others ≡ old.others ++ place ∷ []) × (new.rounded ≡ old.rounded)

-- the nearest number of parts to a value that is none: it is put over the samples before, and told
-- as rounded, or the value is told beside them
abbrev pub AddsNear : Fractions → ℤ → Labels → Left → Said → Said → Type 0
AddsNear Rounded v labels place old new =
    IsPutOver v labels place old new × (new.rounded ≡ old.rounded ++ place ∷ [])
AddsNear Beside v labels place old new = IsBeside place old new

-- a whole number of parts is put over the samples before; another value may be rounded, or is told
-- beside them
abbrev pub AddsValue : Fractions → Value → Labels → Left → Said → Said → Type 0
AddsValue fractions (Parts v) labels place old new =
    IsPutOver v labels place old new × (new.rounded ≡ old.rounded)
AddsValue fractions (Near v) labels place old new = AddsNear fractions v labels place old new
AddsValue fractions Other labels place old new = IsBeside place old new

-- the time of a sample, and where its value stands
abbrev pub place_of : ℕ → List ℕ → Sampled → Left
place_of number line s = record {
  t = s.time;
  line = number;
  column = column_of line s.from_value;
}

-- the value of a sample as it is asked for: its decimal as it was read; or what is kept for the
-- double nearest to the number that its text writes
abbrev pub IsValueAs : Reading → List ℕ → Sampled → Value → Type 0
IsValueAs (Decimals fractions) line s value = value ≡ s.value
IsValueAs Doubles line s value = IsKeptFor (double_at (text_before line s.from_value)) value

-- what becomes of fractions, of which there are none among doubles
abbrev pub fractions_in : Reading → Fractions
fractions_in (Decimals fractions) = fractions
fractions_in Doubles = Beside

-- the line of a sample: its labels are those of the line and the name of the metric
pub record AddsSample (reading : Reading) (number : ℕ) (line : List ℕ) (s : Sampled)
    (old new : Said) : Type 0 where
  pub faultless : sample_fault line s ≡ None
  pub labels : Labels
  pub made : IsMadeOf labels (pairs_of_sample s)
  pub value : Value
  pub is : IsValueAs reading line s value
  pub adds : AddsValue (fractions_in reading) value labels (place_of number line s) old new

abbrev pub Adds : Reading → ℕ → List ℕ → Meaning → Said → Said → Type 0
Adds reading number line nothing old new = new ≡ old
Adds reading number line end old new = ⊥
Adds reading number line (sampled s) old new = AddsSample reading number line s old new

-- what the line with this number adds to what those before it say
pub record AddsLine (format : Format) (places : ℕ) (reading : Reading) (number : ℕ)
    (line : List ℕ) (old new : Said) : Type 0 where
  pub meaning : Meaning
  pub read : line_at format places line ≡ Ok meaning
  pub adds : Adds reading number line meaning old new

-- what lines add, one after the other, the first of which has this number
abbrev pub AddAll : Format → ℕ → Reading → ℕ → List (List ℕ) → Said → Said → Type 0
AddAll format places reading number [] old new = new ≡ old
AddAll format places reading number (line ∷ lines) old new =
    (mid : Said) × AddsLine format places reading number line old mid
    × AddAll format places reading (number + 1) lines mid new

-- what no line says
abbrev pub unsaid : Said
unsaid = record { content = []; count = 0; others = []; rounded = [] }

-- what stands between the ends of lines
abbrev pub lines_in : List ℕ → List (List ℕ)
lines_in text = slice_split (λ c. c == 10) text

abbrev pub texts_in : List (Bor (List ℕ)) → List (List ℕ)
texts_in lines = map (λ line. line.now) lines

abbrev pub eof : List ℕ
eof = codes "# EOF"

-- a text of OpenMetrics ends with `# EOF`, which may end as a line
abbrev pub IsEnd : Format → List (List ℕ) → Type 0
IsEnd OpenMetrics lines = (lines ≡ eof ∷ []) ⊎ (lines ≡ eof ∷ [] ∷ [])
IsEnd Prometheus lines = lines ≡ []

-- lines, and the end of a text behind them
pub record IsCutInto (format : Format) (all lines : List (List ℕ)) : Type 0 where
  pub ending : List (List ℕ)
  pub parts : all ≡ lines ++ ending
  pub ends : IsEnd format ending

-- the text is lines that say this, and its end
pub record IsText (format : Format) (places : ℕ) (reading : Reading) (text : List ℕ)
    (said : Said) : Type 0 where
  pub lines : List (List ℕ)
  pub cut : IsCutInto format (lines_in text) lines
  pub says : AddAll format places reading 1 lines unsaid said

-- whether an exemplar stands behind the sample of what a line says
abbrev pub is_exemplar : Meaning → Bool
is_exemplar nothing = false
is_exemplar end = false
is_exemplar (sampled s) = s.exemplar

abbrev pub has_exemplar_in : Result Meaning Fault → Bool
has_exemplar_in (Ok meaning) = is_exemplar meaning
has_exemplar_in (Err fault) = false

-- whether a line has an exemplar behind its sample
abbrev pub has_exemplar : Format → ℕ → List ℕ → Bool
has_exemplar format places line = has_exemplar_in (line_at format places line)

-- how many lines have one
abbrev pub exemplars_in : Format → ℕ → List (List ℕ) → ℕ
exemplars_in format places lines =
    length (filter (λ (line : List ℕ). has_exemplar format places line) lines)

-- so many lines of a text, before its end, have one
pub record HasExemplars (format : Format) (places : ℕ) (text : List ℕ) (count : ℕ) : Type 0 where
  pub lines : List (List ℕ)
  pub cut : IsCutInto format (lines_in text) lines
  pub counted : count ≡ exemplars_in format places lines
