-- What the types of rows say of them, which is known once they have been walked.
use Rattle.std.specs.Prelude.{ℕ, ℤ, List}
use Rattle.std.specs.Int.{w64}
use Rattle.std.specs.Int.RustNames.{FitsSigned}
use Rattle.std.specs.List.{All}
use Rattle.std.specs.Str.{IsUtf8}
use Rattle.labels.specs.Labels.{Labels}
use Rattle.labels.specs.LabelSets.{IsLabelSet}
use Rattle.labels.specs.Rows.{Row}

-- a pair of texts
abbrev pub IsOfTexts : List ℕ × List ℕ → Type 0
IsOfTexts pair = IsUtf8 pair.0 × IsUtf8 pair.1

-- a label set of texts
pub record AreOfTexts (labels : Labels) : Type 0 where
  pub label_set : IsLabelSet labels
  pub texts : All IsOfTexts labels

-- the label set of each row is one of texts
abbrev pub HaveTexts : List Row → Type 0
HaveTexts rows = All (λ row. AreOfTexts row.0) rows

-- a sample whose value has 64 bits
abbrev pub IsOf64Bits : ℤ × ℤ → Type 0
IsOf64Bits sample = FitsSigned w64 sample.1

-- the value of each sample of each row has 64 bits
abbrev pub Have64Bits : List Row → Type 0
Have64Bits rows = All (λ row. All IsOf64Bits row.1) rows
