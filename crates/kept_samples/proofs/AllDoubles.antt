-- The fates of samples whose values are kept as doubles.
use Rattle.std.proofs.Common.{◌≡◌, inl, inr, ℕ, ℤ, Bool, true, false, not, ◌&&◌, List, [], ◌∷◌, ◌++◌}
use Rattle.std.proofs.Common.{refl, sym, ap, subst, ◌∙◌}
use Rattle.std.specs.List.{AllByRecursion}
use Rattle.xor_reader.specs.Grammar.{Sample}
use Rattle.imported_values.specs.declared.form.Form.{Form}
use Rattle.imported_values.specs.declared.form.Form.TheVariants.{Doubles}
use Rattle.imported_values.specs.declared.policy.Reason.{Reason}
use Rattle.imported_values.specs.declared.policy.Verdict.{Verdict}
use Rattle.imported_values.specs.declared.policy.Verdict.TheVariants.{Kept, Refused}
use Rattle.imported_values.specs.Forms.{IsKeptDouble, IsVerdictIn}
use Rattle.kept_samples.specs.declared.keeping.Asked.{Asked}
use Rattle.kept_samples.specs.declared.keeping.Fate.{Fate}
use Rattle.kept_samples.specs.declared.keeping.Fate.TheVariants.{Outside, Deleted, Judged}
use Rattle.kept_samples.specs.declared.keeping.KeepError.{KeepError}
use Rattle.kept_samples.specs.declared.keeping.KeepError.TheVariants.{Memory, Value}
use Rattle.kept_samples.specs.declared.keeping.Tally.{Tally}
use Rattle.kept_samples.specs.Keeping.{AreFates, IsFate, is_asked, is_deleted, kept_of, kept_one}
use Rattle.kept_samples.specs.Keeping.{told, told_all, Keeps, IsFirstRefusal, IsRefusalOf}
use Rattle.kept_samples.specs.Doubles.{AreDoublesOf, is_left, KeepsDoubles}

out_is_not_left : (a d : Bool) → a ≡ false → (a && not d) ≡ false
out_is_not_left a d e = rw e refl

deleted_is_not_left : (a d : Bool) → a ≡ true → d ≡ true → (a && not d) ≡ false
deleted_is_not_left a d e f = rw (e, f) refl

judged_is_left : (a d : Bool) → a ≡ true → d ≡ false → (a && not d) ≡ true
judged_is_left a d e f = rw (e, f) refl

-- the verdict of a double
double_of : (form : Form) (bits : ℕ) (v : Verdict) → form ≡ Doubles → IsVerdictIn form bits v
    → IsKeptDouble bits v
double_of form bits v is verdict = subst (λ (f : Form). IsVerdictIn f bits v) is verdict

module _ (asked : Asked) (is : asked.form ≡ Doubles) where
  all_kept : (samples : List Sample) (fates : List Fate) → AreFates asked samples fates
      → AreDoublesOf asked samples (kept_of samples fates)
  all_kept [] [] each = refl
  all_kept [] (f ∷ fates) each = absurd each
  all_kept (s ∷ samples) [] each = absurd each
  all_kept (s ∷ samples) (Outside ∷ fates) each =
      inl (
        out_is_not_left (is_asked asked s.0) (is_deleted asked s.0) each.0,
        all_kept samples fates each.1,
      )
  all_kept (s ∷ samples) (Deleted ∷ fates) each =
      inl (
        deleted_is_not_left (is_asked asked s.0) (is_deleted asked s.0) each.0.0 each.0.1,
        all_kept samples fates each.1,
      )
  all_kept (s ∷ samples) (Judged v ∷ fates) each =
      let k = double_of asked.form s.1 v is each.0.2 in
      let one : kept_one s.0 (Judged v) ≡ (s.0, k.number) ∷ [] =
      ap (λ (w : Verdict). kept_one s.0 (Judged w)) k.kept in
      inr (
        judged_is_left (is_asked asked s.0) (is_deleted asked s.0) each.0.0 each.0.1,
        (
          k.number,
          kept_of samples fates,
          ap (λ (x : List (ℤ × ℤ)). x ++ kept_of samples fates) one,
          k.stored,
          all_kept samples fates each.1,
        ),
      )

  told_one : (tally : Tally) (s : Sample) (f : Fate) → IsFate asked s f
      → ((told tally f).rounded ≡ tally.rounded) × ((told tally f).stale ≡ tally.stale)
      × ((told tally f).rest ≡ tally.rest)
  told_one tally s Outside each = (refl, refl, refl)
  told_one tally s Deleted each = (refl, refl, refl)
  told_one tally s (Judged v) each =
      let k = double_of asked.form s.1 v is each.2 in
      let one : told tally (Judged v) ≡ told tally (Judged (Kept k.number)) =
      ap (λ (w : Verdict). told tally (Judged w)) k.kept in (
        ap (λ (t : Tally). t.rounded) one,
        ap (λ (t : Tally). t.stale) one,
        ap (λ (t : Tally). t.rest) one,
      )

  told_none : (tally : Tally) (samples : List Sample) (fates : List Fate)
      → AreFates asked samples fates
      → ((told_all tally fates).rounded ≡ tally.rounded)
      × ((told_all tally fates).stale ≡ tally.stale) × ((told_all tally fates).rest ≡ tally.rest)
  told_none tally [] [] each = (refl, refl, refl)
  told_none tally [] (f ∷ fates) each = absurd each
  told_none tally (s ∷ samples) [] each = absurd each
  told_none tally (s ∷ samples) (f ∷ fates) each =
      let a = told_one tally s f each.0 in
      let b = told_none (told tally f) samples fates each.1 in
      (b.0 ∙ a.0, b.1 ∙ a.1, b.2 ∙ a.2)

  pub keeps_doubles : (samples : List Sample) (old new : List (ℤ × ℤ)) (counts counted : Tally)
      → Keeps asked samples old new counts counted
      → KeepsDoubles asked samples old new counts counted
  keeps_doubles samples old new counts counted k =
      let none = told_none counts samples k.fates k.each in
      record {
        doubles = kept_of samples k.fates;
        each = all_kept samples k.fates k.each;
        kept = k.kept;
        none_rounded = ap (λ (t : Tally). t.rounded) k.told ∙ none.0;
        none_stale = ap (λ (t : Tally). t.stale) k.told ∙ none.1;
        none_other = ap (λ (t : Tally). t.rest) k.told ∙ none.2;
      }

  not_refused : (s : Sample) (f : Fate) (reason : Reason) → IsFate asked s f
      → f ≡ Judged (Refused reason) → ⊥
  not_refused s Outside reason each e = absurd cc
  not_refused s Deleted reason each e = absurd cc
  not_refused s (Judged v) reason each e =
      let k = double_of asked.form s.1 v is each.2 in
      let kept = k.kept in
      absurd cc

  pub only_memory : (s : Sample) (f : Fate) (e : KeepError) → IsFate asked s f
      → IsRefusalOf s f e → e ≡ Memory
  only_memory s f Memory each refusal = refl
  only_memory s f (Value reason t bits) each refusal =
      absurd (not_refused s f reason each refusal.0)
