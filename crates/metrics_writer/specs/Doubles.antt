-- Rows whose values stand for doubles, as text.
use Rattle.std.specs.Prelude.{◌≡◌, ℕ, ℤ, ◌^◌, ◌<◌, List, [], ◌∷◌, ◌++◌, codes}
use Rattle.stored_doubles.specs.Stored.{IsStoredFor}
use Rattle.double_text.specs.Texts.{IsTextOf}
use Rattle.labels.specs.Rows.{Row}
use Rattle.metrics_writer.specs.Groups.{grouped}
use Rattle.metrics_writer.specs.Numbers.{number_text}
use Rattle.metrics_writer.specs.Series.{series_text}

-- the text of the double for which a value is kept: it is read again as this double
pub record IsValueText (v : ℤ) (text : List ℕ) : Type 0 where
  pub bits : ℕ
  pub fits : bits < 2 ^ 64
  pub stored : IsStoredFor bits v
  pub is : IsTextOf bits text

-- a line for a sample: its series, a space and the text of its double, a space and its time in
-- seconds
pub record IsDoubleLine (series : List ℕ) (s : ℤ × ℤ) (line : List ℕ) : Type 0 where
  pub value : List ℕ
  pub is : IsValueText s.1 value
  pub written : line ≡ series ++ (32 ∷ value) ++ (32 ∷ number_text 3 s.0) ++ 10 ∷ []

-- a text for each of some, one after the other
abbrev pub AreJoined : {X : Type 0} → (X → List ℕ → Type 0) → List X → List ℕ → Type 0
AreJoined is [] text = text ≡ []
AreJoined is (x ∷ xs) text =
    (one rest : List ℕ) × (text ≡ one ++ rest) × is x one × AreJoined is xs rest

-- the lines of a row
abbrev pub IsRowOfDoubles : Row → List ℕ → Type 0
IsRowOfDoubles row text = AreJoined (IsDoubleLine (series_text row.0)) row.1 text

-- the lines of all rows, those of each metric together, and the end
pub record IsTextOfDoubles (rows : List Row) (text : List ℕ) : Type 0 where
  pub lines : List ℕ
  pub each : AreJoined IsRowOfDoubles (grouped rows) lines
  pub written : text ≡ lines ++ codes "# EOF\n"
