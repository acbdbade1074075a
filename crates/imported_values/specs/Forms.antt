-- What becomes of a value in each form.
use Rattle.std.specs.Prelude.{◌≡◌, ℕ, ℤ, FitsSigned}
use Rattle.std.specs.Int.{w64}
use Rattle.stored_doubles.specs.Stored.{IsStoredFor}
use Rattle.imported_values.specs.declared.form.Form.{Form}
use Rattle.imported_values.specs.declared.form.Form.TheVariants.{Parts, Doubles}
use Rattle.imported_values.specs.declared.policy.Verdict.{Verdict}
use Rattle.imported_values.specs.declared.policy.Verdict.TheVariants.{Kept}
use Rattle.imported_values.specs.Values.{IsVerdict}

-- the value is kept as the number for the double with these bits, whichever they are
pub record IsKeptDouble (bits : ℕ) (verdict : Verdict) : Type 0 where
  pub number : ℤ
  pub fits : FitsSigned w64 number
  pub stored : IsStoredFor bits number
  pub kept : verdict ≡ Kept number

-- what becomes of the value with these bits in a form: what its policy says, or it is kept as the
-- number for its double
abbrev pub IsVerdictIn : Form → ℕ → Verdict → Type 0
IsVerdictIn (Parts policy) bits verdict = IsVerdict policy bits verdict
IsVerdictIn Doubles bits verdict = IsKeptDouble bits verdict
