-- What is kept of samples whose values are kept as the numbers for their doubles.
use Rattle.std.specs.Prelude.{◌≡◌, ◌⊎◌, ℤ, Bool, true, false, not, ◌&&◌, List, [], ◌∷◌, ◌++◌}
use Rattle.stored_doubles.specs.Stored.{IsStoredFor}
use Rattle.imported_values.specs.declared.form.Form.TheVariants.{Doubles}
use Rattle.xor_reader.specs.Grammar.{Sample}
use Rattle.kept_samples.specs.declared.keeping.Asked.{Asked}
use Rattle.kept_samples.specs.declared.keeping.KeepError.{KeepError}
use Rattle.kept_samples.specs.declared.keeping.KeepError.TheVariants.{Memory}
use Rattle.kept_samples.specs.declared.keeping.Tally.{Tally}
use Rattle.kept_samples.specs.Keeping.{is_asked, is_deleted, Keeps, IsFirstRefusal}

-- whether a time is asked for, and no deletion deletes it
abbrev pub is_left : Asked → ℤ → Bool
is_left asked t = is_asked asked t && not (is_deleted asked t)

-- for each sample whose time is asked for and not deleted the number for its double, at its time,
-- in their order; and no more
abbrev pub AreDoublesOf : Asked → List Sample → List (ℤ × ℤ) → Type 0
AreDoublesOf asked [] kept = kept ≡ []
AreDoublesOf asked (s ∷ samples) kept =
    ((is_left asked s.0 ≡ false) × AreDoublesOf asked samples kept)
    ⊎ ((is_left asked s.0 ≡ true) × ((v : ℤ) × (rest : List (ℤ × ℤ))
    × (kept ≡ (s.0, v) ∷ rest) × IsStoredFor s.1 v × AreDoublesOf asked samples rest))

-- doubles behind samples from before; none is told as rounded, as stale or as another value
pub record KeepsDoubles (asked : Asked) (samples : List Sample) (old new : List (ℤ × ℤ))
    (counts counted : Tally) : Type 0 where
  pub doubles : List (ℤ × ℤ)
  pub each : AreDoublesOf asked samples doubles
  pub kept : new ≡ old ++ doubles
  pub none_rounded : counted.rounded ≡ counts.rounded
  pub none_stale : counted.stale ≡ counts.stale
  pub none_other : counted.rest ≡ counts.rest

-- where values are kept as doubles, each sample that is asked for and not deleted is kept, with
-- every bit of its value
abbrev pub DoublesAreAllKept : Type 0
DoublesAreAllKept = (asked : Asked) (samples : List Sample) (old new : List (ℤ × ℤ))
    (counts counted : Tally) → asked.form ≡ Doubles → Keeps asked samples old new counts counted
    → KeepsDoubles asked samples old new counts counted

-- and none is refused
abbrev pub NoDoubleIsRefused : Type 0
NoDoubleIsRefused = (asked : Asked) (samples : List Sample) (e : KeepError)
    → asked.form ≡ Doubles → IsFirstRefusal asked samples e → e ≡ Memory
