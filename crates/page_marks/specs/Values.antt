-- The values that rows show.
use Rattle.std.specs.Prelude.{◌≡◌, ℤ, List, [], ◌∷◌, ◌++◌}
use Rattle.labels.specs.Rows.{Row}
use Rattle.page_claims.specs.declared.figures.Figures.{Figures}
use Rattle.page_text.specs.Values.{value_of}
use Rattle.page_text.specs.declared.value.Value.{Value}
use Rattle.page_text.specs.declared.value.Values.{Values}
use Rattle.page_marks.specs.Figures.{AreFiguresOf}

-- the values of the figures of a row
abbrev pub figure_values : Values → Figures → List Value
figure_values values f =
    value_of values f.first ∷ value_of values f.last ∷ value_of values f.least
    ∷ value_of values f.greatest ∷ []

-- the values that a row with these samples shows: those of its figures, and none without samples
abbrev pub AreRowValues : Values → List (ℤ × ℤ) → List Value → Type 0
AreRowValues values [] shown = shown ≡ []
AreRowValues values (s ∷ ss) shown =
    (f : Figures) × AreFiguresOf values (s ∷ ss) f × (shown ≡ figure_values values f)

-- the values that rows show, row by row
abbrev pub AreValuesOf : Values → List Row → List Value → Type 0
AreValuesOf values [] shown = shown ≡ []
AreValuesOf values (r ∷ rs) shown =
    (one rest : List Value) × (shown ≡ one ++ rest) × AreRowValues values r.1 one
    × AreValuesOf values rs rest
