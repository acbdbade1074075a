-- Why labels make no label set.
use Rattle.std.specs.Prelude.{◌≡◌, ℕ, Bool, false, Option, Some, IfSome}
use Rattle.exposition.specs.declared.error.Cause.{Cause}
use Rattle.exposition.specs.declared.error.Cause.TheVariants.{Text}
use Rattle.exposition.specs.declared.error.Refusal.{Refusal}
use Rattle.exposition.specs.declared.series.NoLabels.{NoLabels}

-- the cause is this one, if there is one
abbrev pub IfCaused : NoLabels → Option Cause → Type 0
IfCaused e cause = IfSome e.cause (λ c. cause ≡ Some c)

-- the cause is that a test of UTF-8 fails, if there is one
abbrev pub IsNoUtf8 : Bool → NoLabels → Type 0
IsNoUtf8 test e = IfSome e.cause (λ c. (c ≡ Text) × (test ≡ false))

-- the refusal of the line with this number for the cause, whose column is 1
abbrev pub IsCausedBy : ℕ → NoLabels → Refusal → Type 0
IsCausedBy number e r = (r.line ≡ number) × (r.column ≡ 1) × (e.cause ≡ Some r.cause)
