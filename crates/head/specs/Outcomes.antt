-- What a refusal of the code says of a step.
use Rattle.std.specs.Prelude.{◌≡◌, Result, Ok, Err, MatchResult}
use Rattle.head.specs.declared.error.CommitError.{CommitError}
use Rattle.head.specs.declared.error.CommitError.TheVariants.{OutOfBounds, OutOfOrder, Duplicate}
use Rattle.head.specs.declared.error.CommitError.TheVariants.{Limit, CutTooLow, TooManyParts, Seat}
use Rattle.head.specs.declared.error.CommitError.TheVariants.{Journal, Memory}
use Rattle.head.specs.Refusals.{Refusal, out_of_bounds, out_of_order, duplicate, limit, cut_too_low}
use Rattle.head.specs.Refusals.{too_many_parts}

-- the refusal is the step's, or memory's
abbrev pub IsStepRefusal : {W : Type 0} → CommitError → Result W Refusal → Type 0
IsStepRefusal (OutOfBounds at) r = r ≡ Err (out_of_bounds at)
IsStepRefusal (OutOfOrder at) r = r ≡ Err (out_of_order at)
IsStepRefusal (Duplicate at) r = r ≡ Err (duplicate at)
IsStepRefusal Limit r = r ≡ Err limit
IsStepRefusal CutTooLow r = r ≡ Err cut_too_low
IsStepRefusal TooManyParts r = r ≡ Err too_many_parts
IsStepRefusal Seat r = ⊥
IsStepRefusal Journal r = ⊥
IsStepRefusal Memory r = Unit {0}

-- what was made is the step's outcome, or the refusal is the step's
abbrev pub IsOutcome : {V W : Type 0} → Result V CommitError → Result W Refusal → W → Type 0
IsOutcome result step made = MatchResult result (λ _. step ≡ Ok made) (λ e. IsStepRefusal e step)
