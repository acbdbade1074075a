-- Where a sample is refused, and why.
use Rattle.std.specs.Prelude.{◌≡◌, ℕ, true, false, List, Option, None, Some, IfSome, refl}
use Rattle.std.proofs.Common.{sym, ap, subst, ◌∙◌}
use Rattle.labels.specs.Contents.{is_time}
use Rattle.open_metrics.specs.Lines.{Sampled}
use Rattle.exposition.specs.declared.error.Cause.{Cause}
use Rattle.exposition.specs.declared.error.Cause.TheVariants.{Time}
use Rattle.exposition.specs.declared.error.ReadError.{ReadError}
use Rattle.exposition.specs.declared.error.ReadError.TheVariants.{Memory, Refused}
use Rattle.exposition.specs.declared.series.NoLabels.{NoLabels}
use Rattle.exposition.specs.Faults.{column_of, or_time, pairs_fault, pairs_of_sample, sample_fault}
use Rattle.exposition.specs.Refusing.{IfRefused, IsFor}
use Rattle.exposition.specs.Series.{IfCaused, IsCausedBy}

-- a sample without a label set
pub labels_wrong : (line : List ℕ) (s : Sampled) (n : ℕ) (error : NoLabels) (e : ReadError)
    → IfCaused error (pairs_fault (pairs_of_sample s)) → IfRefused e (IsCausedBy n error)
    → IfRefused e (IsFor n (sample_fault line s))
labels_wrong line s n error Memory caused is = tt
labels_wrong line s n error (Refused r) caused is =
    let fault : Option Cause = pairs_fault (pairs_of_sample s) in
    let found : fault ≡ Some r.cause =
    subst (λ (o : Option Cause). IfSome o (λ c. fault ≡ Some c)) is.2 caused in (
      is.0,
      ap (or_time line s) found ∙ ap (λ (c : ℕ). Some (c, r.cause)) (sym is.1),
    )

-- a sample with a label set, and with another time
pub time_wrong : (line : List ℕ) (s : Sampled) → pairs_fault (pairs_of_sample s) ≡ None
    → is_time s.time ≡ false → sample_fault line s ≡ Some (column_of line s.from_time, Time)
time_wrong line s none late = ap (or_time line s) none ∙ rw late refl

-- a sample with both
pub none_wrong : (line : List ℕ) (s : Sampled) → pairs_fault (pairs_of_sample s) ≡ None
    → is_time s.time ≡ true → sample_fault line s ≡ None
none_wrong line s none now = ap (or_time line s) none ∙ rw now refl
