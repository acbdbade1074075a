-- What is kept of samples, and how each of them is counted.
use Rattle.std.specs.Prelude.{◌≡◌, ◌⊎◌, ℕ, ℤ, ◌+◌, min, Bool, true, false, List, [], ◌∷◌, ◌++◌}
use Rattle.std.specs.Prelude.{◌&&◌, int_le}
use Rattle.index_reader.specs.declared.chunk.Chunk.{Chunk}
use Rattle.labels.specs.Contents.{in_range}
use Rattle.tombstones.specs.Covering.{covered}
use Rattle.imported_values.specs.Forms.{IsVerdictIn}
use Rattle.imported_values.specs.declared.policy.Reason.{Reason}
use Rattle.imported_values.specs.declared.policy.Reason.TheVariants as reason
use Rattle.imported_values.specs.declared.policy.Verdict.{Verdict}
use Rattle.imported_values.specs.declared.policy.Verdict.TheVariants.{Kept, Rounded, Left, Refused}
use Rattle.xor_reader.specs.Grammar.{Sample}
use Rattle.kept_samples.specs.declared.keeping.Asked.{Asked}
use Rattle.kept_samples.specs.declared.keeping.Fate.{Fate}
use Rattle.kept_samples.specs.declared.keeping.Fate.TheVariants.{Outside, Deleted, Judged}
use Rattle.kept_samples.specs.declared.keeping.KeepError.{KeepError}
use Rattle.kept_samples.specs.declared.keeping.KeepError.TheVariants.{Memory, Value}
use Rattle.kept_samples.specs.declared.keeping.Tally.{Tally}
use Rattle.kept_samples.specs.declared.keeping.Times.{Times}
use Rattle.std.specs.List.{AllByRecursion}

-- whether the times of a chunk meet a closed range
abbrev pub meets : Times → Chunk → Bool
meets times c = int_le c.mint times.to && int_le times.from c.maxt

-- whether a time is asked for
abbrev pub is_asked : Asked → ℤ → Bool
is_asked asked t = in_range asked.times.from asked.times.to t

-- whether a deletion deletes a time of the series
abbrev pub is_deleted : Asked → ℤ → Bool
is_deleted asked t = covered asked.tombstones.now asked.reference t

-- what becomes of a sample: it is outside the range, or else deleted, or else its value is judged
abbrev pub IsFate : Asked → Sample → Fate → Type 0
IsFate asked s Outside = is_asked asked s.0 ≡ false
IsFate asked s Deleted = (is_asked asked s.0 ≡ true) × (is_deleted asked s.0 ≡ true)
IsFate asked s (Judged verdict) = (is_asked asked s.0 ≡ true) × (is_deleted asked s.0 ≡ false)
    × IsVerdictIn asked.form s.1 verdict

-- a fate for each of some samples
abbrev pub AreFates : Asked → List Sample → List Fate → Type 0
AreFates asked [] [] = Unit {0}
AreFates asked [] (f ∷ fates) = ⊥
AreFates asked (s ∷ samples) [] = ⊥
AreFates asked (s ∷ samples) (f ∷ fates) = IsFate asked s f × AreFates asked samples fates

-- the sample that is kept of one with this time and this fate
abbrev pub kept_one : ℤ → Fate → List (ℤ × ℤ)
kept_one t (Judged (Kept v)) = (t, v) ∷ []
kept_one t (Judged (Rounded v)) = (t, v) ∷ []
kept_one t (Judged (Left reason)) = []
kept_one t (Judged (Refused reason)) = []
kept_one t Outside = []
kept_one t Deleted = []

-- the samples that are kept of some
abbrev pub kept_of : List Sample → List Fate → List (ℤ × ℤ)
kept_of [] fates = []
kept_of (s ∷ samples) [] = []
kept_of (s ∷ samples) (f ∷ fates) = kept_one s.0 f ++ kept_of samples fates

-- one more, up to the greatest number
abbrev pub one_more : ℕ → ℕ
one_more n = min (n + 1) 0xffff_ffff_ffff_ffff

-- counts with one sample more: it is told in one of them, unless it is refused; one that is rounded
-- is told among those that are kept, and once more
abbrev pub told : Tally → Fate → Tally
told tally Outside = record tally { outside = one_more tally.outside }
told tally Deleted = record tally { deleted = one_more tally.deleted }
told tally (Judged (Kept v)) = record tally { kept = one_more tally.kept }
told tally (Judged (Rounded v)) =
    record tally { kept = one_more tally.kept; rounded = one_more tally.rounded }
told tally (Judged (Left reason.Stale)) = record tally { stale = one_more tally.stale }
told tally (Judged (Left reason.Rest)) = record tally { rest = one_more tally.rest }
told tally (Judged (Refused reason)) = tally

-- counts with samples more
abbrev pub told_all : Tally → List Fate → Tally
told_all tally [] = tally
told_all tally (f ∷ fates) = told_all (told tally f) fates

-- the value of the sample is refused
abbrev pub IsRefused : Fate → Type 0
IsRefused (Judged (Refused reason)) = Unit {0}
IsRefused (Judged (Kept v)) = ⊥
IsRefused (Judged (Rounded v)) = ⊥
IsRefused (Judged (Left reason)) = ⊥
IsRefused Outside = ⊥
IsRefused Deleted = ⊥

-- why a sample of this fate is not kept: its value is refused, with its time and its bits, or
-- memory ran out
abbrev pub IsRefusalOf : Sample → Fate → KeepError → Type 0
IsRefusalOf s fate Memory = Unit {0}
IsRefusalOf s fate (Value reason t bits) =
    (fate ≡ Judged (Refused reason)) × (t ≡ s.0) × (bits ≡ s.1)

-- the samples that are kept stand after those from before, and each sample is counted by what
-- became of it; none is refused
pub record Keeps (asked : Asked) (samples : List Sample) (old new : List (ℤ × ℤ))
    (counts counted : Tally) : Type 0 where
  pub fates : List Fate
  pub each : AreFates asked samples fates
  pub none_refused : AllByRecursion (λ (f : Fate). IsRefused f → ⊥) fates
  pub kept : new ≡ old ++ kept_of samples fates
  pub told : counted ≡ told_all counts fates

-- the refusal is that of the first of the samples whose value is refused
pub record IsFirstRefusal (asked : Asked) (samples : List Sample) (e : KeepError) : Type 0 where
  pub before : List Sample
  pub sample : Sample
  pub after : List Sample
  pub order : samples ≡ before ++ sample ∷ after
  pub fates : List Fate
  pub each : AreFates asked before fates
  pub none_refused : AllByRecursion (λ (f : Fate). IsRefused f → ⊥) fates
  pub fate : Fate
  pub is : IsFate asked sample fate
  pub refusal : IsRefusalOf sample fate e
