-- One sample more, and its fate.
use Rattle.std.proofs.Common.{◌≡◌, ℕ, suc, zero, ◌+◌, ◌<◌, ℤ, List, [], ◌∷◌, ◌++◌, length, take}
use Rattle.std.proofs.Common.{drop, get_or, refl, sym, ap, subst, ◌∙◌, append_assoc, arith}
use Rattle.std.specs.List.{AllByRecursion}
use Rattle.std.proofs.lemmas.List.{append-nil, take-append-drop}
use Rattle.xor_reader.specs.Grammar.{Sample}
use Rattle.kept_samples.specs.declared.keeping.Asked.{Asked}
use Rattle.kept_samples.specs.declared.keeping.Fate.{Fate}
use Rattle.kept_samples.specs.declared.keeping.Tally.{Tally}
use Rattle.kept_samples.specs.Keeping.{AreFates, IsFate, IsRefused, kept_of, kept_one, told}
use Rattle.kept_samples.specs.Keeping.{told_all, Keeps}
use Rattle.kept_samples.specs.Keeping.{IsRefusalOf, IsFirstRefusal}
use Rattle.kept_samples.specs.declared.keeping.KeepError.{KeepError}
use Rattle.std.proofs.lemmas.Grind.{take_at_read}
use Rattle.std.proofs.Math.Seq.{drop-cons}

fates_next : (asked : Asked) (samples : List Sample) (fates : List Fate) (s : Sample) (f : Fate)
    → AreFates asked samples fates → IsFate asked s f
    → AreFates asked (samples ++ s ∷ []) (fates ++ f ∷ [])
fates_next asked [] [] s f each is = (is, tt)
fates_next asked [] (g ∷ fates) s f each is = absurd each
fates_next asked (x ∷ samples) [] s f each is = absurd each
fates_next asked (x ∷ samples) (g ∷ fates) s f each is =
    (each.0, fates_next asked samples fates s f each.1 is)

kept_next : (asked : Asked) (samples : List Sample) (fates : List Fate) (s : Sample) (f : Fate)
    → AreFates asked samples fates
    → kept_of (samples ++ s ∷ []) (fates ++ f ∷ []) ≡ kept_of samples fates ++ kept_one s.0 f
kept_next asked [] [] s f each = append-nil (kept_one s.0 f)
kept_next asked [] (g ∷ fates) s f each = absurd each
kept_next asked (x ∷ samples) [] s f each = absurd each
kept_next asked (x ∷ samples) (g ∷ fates) s f each =
    ap (λ (y : List (ℤ × ℤ)). kept_one x.0 g ++ y) (kept_next asked samples fates s f each.1)
    ∙ sym (append_assoc (kept_one x.0 g) (kept_of samples fates) (kept_one s.0 f))

told_next : (tally : Tally) (fates : List Fate) (f : Fate)
    → told_all tally (fates ++ f ∷ []) ≡ told (told_all tally fates) f
told_next tally [] f = refl
told_next tally (g ∷ fates) f = told_next (told tally g) fates f

all_next : (fates : List Fate) (f : Fate)
    → AllByRecursion (λ (x : Fate). IsRefused x → ⊥) fates → (IsRefused f → ⊥)
    → AllByRecursion (λ (x : Fate). IsRefused x → ⊥) (fates ++ f ∷ [])
all_next [] f each is = (is, tt)
all_next (g ∷ fates) f each is = (each.0, all_next fates f each.1 is)

pub keeps_next : (asked : Asked) (samples next : List Sample) (s : Sample) (f : Fate)
    (old new newer : List (ℤ × ℤ)) (counts counted more : Tally)
    → Keeps asked samples old new counts counted → IsFate asked s f → (IsRefused f → ⊥)
    → newer ≡ new ++ kept_one s.0 f → more ≡ told counted f → next ≡ samples ++ s ∷ []
    → Keeps asked next old newer counts more
keeps_next asked samples next s f old new newer counts counted more k is not_refused p q e =
    subst (λ (x : List Sample). Keeps asked x old newer counts more) (sym e) (record {
      fates = k.fates ++ f ∷ [];
      each = fates_next asked samples k.fates s f k.each is;
      none_refused = all_next k.fates f k.none_refused not_refused;
      kept = p ∙ (ap (λ (x : List (ℤ × ℤ)). x ++ kept_one s.0 f) k.kept
          ∙ (append_assoc old (kept_of samples k.fates) (kept_one s.0 f)
          ∙ ap (λ (x : List (ℤ × ℤ)). old ++ x)
          (sym (kept_next asked samples k.fates s f k.each))));
      told = q ∙ (ap (λ (x : Tally). told x f) k.told ∙ sym (told_next counts k.fates f));
    })

pub keeps_none : (asked : Asked) (old : List (ℤ × ℤ)) (counts : Tally)
    → Keeps asked [] old old counts counts
keeps_none asked old counts = record {
  fates = [];
  each = tt;
  none_refused = tt;
  kept = sym (append-nil old);
  told = refl;
}

pub one_next : (samples : List Sample) (i : ℕ) (s : Sample) → i < length samples
    → s ≡ get_or samples i s → take (i + 1) samples ≡ take i samples ++ s ∷ []
one_next samples i s lt is =
    (take_at_read samples i s lt).1
    ∙ ap (λ (x : Sample). take i samples ++ x ∷ []) (sym is)

pub first_refusal : (asked : Asked) (samples : List Sample) (i : ℕ) (s : Sample) (f : Fate)
    (old new : List (ℤ × ℤ)) (counts counted : Tally) (e : KeepError) → i < length samples
    → s ≡ get_or samples i s → Keeps asked (take i samples) old new counts counted
    → IsFate asked s f → IsRefusalOf s f e → IsFirstRefusal asked samples e
first_refusal asked samples i s f old new counts counted e lt at k is refusal = record {
  before = take i samples;
  sample = s;
  after = drop (suc i) samples;
  order = sym (take-append-drop i samples)
      ∙ (ap (λ (x : List Sample). take i samples ++ x) (drop-cons samples i s lt)
      ∙ ap (λ (x : Sample). take i samples ++ x ∷ drop (suc i) samples) (sym at));
  fates = k.fates;
  each = k.each;
  none_refused = k.none_refused;
  fate = f;
  is = is;
  refusal = refusal;
}
