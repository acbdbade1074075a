-- The values that rows show, row by row.
use Rattle.std.proofs.Common.{◌≡◌, ◌<◌, ◌≤◌, ◌+◌, ℕ, ℤ, List, [], ◌∷◌, ◌++◌, length, get_or, drop}
use Rattle.std.proofs.Common.{refl, ap, ap₂, sym, subst, ◌∙◌, append_assoc, append-nil, drop-cons}
use Rattle.std.proofs.Common.{add-one, arith}
use Rattle.std.proofs.lemmas.List.{drop_all}
use Rattle.labels.specs.Rows.{Row}
use Rattle.page_claims.specs.declared.figures.Figures.{Figures}
use Rattle.page_text.specs.declared.value.Value.{Value}
use Rattle.page_text.specs.declared.value.Values.{Values}
use Rattle.page_marks.specs.Figures.{AreFiguresOf}
use Rattle.page_marks.specs.Values.{figure_values, AreRowValues, AreValuesOf}

-- the values of a row that has samples
pub with_figures : (values : Values) (samples : List (ℤ × ℤ)) (f : Figures) → 0 < length samples
    → AreFiguresOf values samples f → AreRowValues values samples (figure_values values f)
with_figures values [] f some are = absurd (omega (arith, some))
with_figures values (s ∷ ss) f some are = (f, are, refl)

-- and of one that has none
pub without_samples : (values : Values) (samples : List (ℤ × ℤ)) → length samples ≤ 0
    → AreRowValues values samples []
without_samples values [] none = refl
without_samples values (s ∷ ss) none = absurd (omega (arith, none))

-- what the rows from a place on show, behind what the others show
abbrev pub Continues : Values → List Row → ℕ → List Value → Type 0
Continues values rows i shown =
    (rest : List Value) → AreValuesOf values (drop i rows) rest
    → AreValuesOf values rows (shown ++ rest)

pub continues_none : (values : Values) (rows : List Row) → Continues values rows 0 []
continues_none values rows rest are = are

pub continues_next : (values : Values) (rows : List Row) (i : ℕ) (row : Row)
    (shown one new : List Value) → i < length rows → row ≡ get_or rows i row
    → new ≡ shown ++ one → AreRowValues values row.1 one → Continues values rows i shown
    → Continues values rows (i + 1) new
continues_next values rows i row shown one new within is made are before rest more =
    let next : drop i rows ≡ row ∷ drop (i + 1) rows =
    drop-cons rows i row within
    ∙ sym (ap₂ (λ (r : Row) (k : ℕ). r ∷ drop k rows) is (add-one i)) in
    let behind : AreValuesOf values (drop i rows) (one ++ rest) =
    subst (λ (rs : List Row). AreValuesOf values rs (one ++ rest)) (sym next)
    (one, rest, refl, are, more) in
    subst (λ (vs : List Value). AreValuesOf values rows vs)
    (sym (append_assoc shown one rest) ∙ sym (ap (λ (vs : List Value). vs ++ rest) made))
    (before (one ++ rest) behind)

pub continues_all : (values : Values) (rows : List Row) (i : ℕ) (shown : List Value)
    → length rows ≤ i → Continues values rows i shown → AreValuesOf values rows shown
continues_all values rows i shown all before =
    let none : drop i rows ≡ [] = drop_all i rows all in
    subst (λ (vs : List Value). AreValuesOf values rows vs) (append-nil shown)
    (before [] (subst (λ (rs : List Row). AreValuesOf values rs []) (sym none) refl))
