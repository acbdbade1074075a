-- What the line of a sample spells: a relation between lines and samples.
use Rattle.std.specs.Prelude.{◌≡◌, ◌⊎◌, ℕ, ◌<◌, ◌≤◌, ◌==◌, Bool, true, false, List, [], ◌∷◌, ◌++◌}
use Rattle.std.specs.Prelude.{length, None, Some, if◌then◌else◌}
use Rattle.std.specs.List.{AllByRecursion}
use Rattle.open_metrics.specs.declared.comments.Format.{Format}
use Rattle.open_metrics.specs.declared.comments.Format.TheVariants.{OpenMetrics, Prometheus}
use Rattle.open_metrics.specs.declared.numbers.Value.TheVariants.{Parts}
use Rattle.open_metrics.specs.declared.tokens.Class.{Class}
use Rattle.open_metrics.specs.declared.tokens.Class.TheVariants.{Metric, Label, Word, Blank}
use Rattle.open_metrics.specs.Labels.{Pair}
use Rattle.open_metrics.specs.Lines.{Sampled, Meaning, nothing, end, sampled, time_places}
use Rattle.open_metrics.specs.Numbers.{number_at}
use Rattle.open_metrics.specs.Texts.{escaped}
use Rattle.open_metrics.specs.Tokens.{goes_on, is_begun}

-- the bytes of a word
abbrev pub AreIn : Class → List ℕ → Type 0
AreIn class [] = Unit {0}
AreIn class (c ∷ cs) = (goes_on class c ≡ true) × AreIn class cs

-- a name: `[a-zA-Z_][a-zA-Z0-9_]*`, that of a metric with `:` too
pub record IsName (class : Class) (name : List ℕ) : Type 0 where
  pub in_class : AreIn class name
  pub begun : is_begun name ≡ true

-- a character of a text, and what stands behind it: a backslash, a quote and the end of a line are
-- escaped
abbrev pub escape_then : ℕ → List ℕ → List ℕ
escape_then c rest =
    if c == 92 then 92 ∷ 92 ∷ rest
    else if c == 34 then 92 ∷ 34 ∷ rest
    else if c == 10 then 92 ∷ 110 ∷ rest
    else c ∷ rest

-- a backslash in front of these bytes begins no escape
abbrev pub IsNoEscape : List ℕ → Type 0
IsNoEscape [] = Unit {0}
IsNoEscape (c ∷ cs) = escaped c ≡ None

-- a character of a text, and what stands behind it; a backslash that begins no escape stands for
-- itself
abbrev pub SpellsChar : ℕ → List ℕ → List ℕ → Type 0
SpellsChar c rest bytes =
    (bytes ≡ escape_then c rest) ⊎ ((c ≡ 92) × (bytes ≡ 92 ∷ rest) × IsNoEscape rest)

-- a text, its last quote, and what stands behind it
abbrev pub SpellsText : List ℕ → List ℕ → List ℕ → Type 0
SpellsText [] rest bytes = bytes ≡ 34 ∷ rest
SpellsText (c ∷ cs) rest bytes =
    (after : List ℕ) × SpellsChar c after bytes × SpellsText cs rest after

-- blanks where the older text may have them: OpenMetrics has none
abbrev pub AreBlanks : Format → List ℕ → Type 0
AreBlanks OpenMetrics bytes = bytes ≡ []
AreBlanks Prometheus bytes = AreIn Blank bytes

-- what parts values and times: a space, in the older text blanks
abbrev pub IsGap : Format → List ℕ → Type 0
IsGap OpenMetrics gap = gap ≡ 32 ∷ []
IsGap Prometheus gap = (0 < length gap) × AreIn Blank gap

-- name="text", and what stands behind it
pub record SpellsPair (format : Format) (p : Pair) (after bytes : List ℕ) : Type 0 where
  pub before : List ℕ
  pub between : List ℕ
  pub behind : List ℕ
  pub value : List ℕ
  pub before_blank : AreBlanks format before
  pub between_blank : AreBlanks format between
  pub behind_blank : AreBlanks format behind
  pub value_is : SpellsText p.1 after value
  pub text : bytes ≡ before ++ (p.0 ++ (between ++ (61 ∷ (behind ++ (34 ∷ value)))))

-- what ends labels: a brace, in the older text perhaps behind a comma
abbrev pub IsClose : Format → List ℕ → Type 0
IsClose OpenMetrics close = close ≡ 125 ∷ []
IsClose Prometheus close = (close ≡ 125 ∷ [])
    ⊎ ((blanks : List ℕ) × AreIn Blank blanks × (close ≡ 44 ∷ (blanks ++ 125 ∷ [])))

-- labels that follow others, their end, and what stands behind it
abbrev pub SpellsOthers : Format → List Pair → List ℕ → List ℕ → Type 0
SpellsOthers format [] rest bytes = (blanks close : List ℕ) × AreBlanks format blanks
    × IsClose format close × (bytes ≡ blanks ++ (close ++ rest))
SpellsOthers format (p ∷ ps) rest bytes = (blanks more after : List ℕ) × AreBlanks format blanks
    × (bytes ≡ blanks ++ 44 ∷ more) × SpellsPair format p after more
    × SpellsOthers format ps rest after

-- labels within braces, and what stands behind them
abbrev pub SpellsWithin : Format → List Pair → List ℕ → List ℕ → Type 0
SpellsWithin format [] rest bytes =
    (blanks : List ℕ) × AreBlanks format blanks × (bytes ≡ blanks ++ 125 ∷ rest)
SpellsWithin format (p ∷ ps) rest bytes =
    (after : List ℕ) × SpellsPair format p after bytes × SpellsOthers format ps rest after

-- the bytes are labels and what stands behind them; where there is no label, braces may be missing
abbrev pub SpellsLabels : Format → List Pair → List ℕ → List ℕ → Type 0
SpellsLabels format labels rest bytes =
    ((inside : List ℕ) × (bytes ≡ 123 ∷ inside) × SpellsWithin format labels rest inside)
    ⊎ ((labels ≡ []) × (bytes ≡ rest))

-- an exemplar behind a sample of OpenMetrics, of which the rest is left
pub record IsExemplar (bytes : List ℕ) : Type 0 where
  pub rest : List ℕ
  pub is : bytes ≡ 32 ∷ 35 ∷ 32 ∷ 123 ∷ rest

-- what may stand behind a sample
abbrev pub IsTail : Format → List ℕ → Bool → Type 0
IsTail format [] exemplar = exemplar ≡ false
IsTail OpenMetrics (c ∷ cs) exemplar = IsExemplar (c ∷ cs) × (exemplar ≡ true)
IsTail Prometheus (c ∷ cs) exemplar = ⊥

-- the line is that of the sample: its name, its labels, a gap, its value, a gap, its time
pub record IsSample (format : Format) (places : ℕ) (line : List ℕ) (s : Sampled) : Type 0 where
  pub lead : List ℕ
  pub from_labels : List ℕ
  pub gap : List ℕ
  pub value : List ℕ
  pub pause : List ℕ
  pub time : List ℕ
  pub tail : List ℕ
  pub line_is : line ≡ lead ++ (s.name ++ from_labels)
  pub lead_is : AreBlanks format lead
  pub name_is : IsName Metric s.name
  pub labels_are : SpellsLabels format s.labels (gap ++ (value ++ (pause ++ (time ++ tail))))
      from_labels
  pub label_names : AllByRecursion (λ (p : Pair). IsName Label p.0) s.labels
  pub few : length s.labels ≤ 64
  pub gap_is : IsGap format gap
  pub value_word : AreIn Word value
  pub value_is : number_at value places ≡ Some s.value
  pub pause_is : IsGap format pause
  pub time_word : AreIn Word time
  pub time_is : number_at time (time_places format) ≡ Some (Parts s.time)
  pub tail_is : IsTail format tail s.exemplar
  pub value_from : s.from_value ≡ length (value ++ (pause ++ (time ++ tail)))
  pub time_from : s.from_time ≡ length (time ++ tail)

-- what must hold of a sample
abbrev pub IfSampled : Meaning → (Sampled → Type 0) → Type 0
IfSampled nothing P = Unit {0}
IfSampled end P = Unit {0}
IfSampled (sampled s) P = P s
