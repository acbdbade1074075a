-- What one sample more gives.
use Rattle.std.proofs.Common.{◌≡◌, ◌+◌, ◌<◌, ◌≤◌, ℕ, ℤ, List, [], ◌∷◌, ◌++◌, length, map, take}
use Rattle.std.proofs.Common.{get_or, sym, ap, ◌∙◌, refl, subst}
use Rattle.std.proofs.Common.{Option, None, Some}
use Rattle.std.specs.Prelude.{filter}
use Rattle.std.specs.List.{AllZip}
use Rattle.std.proofs.lemmas.List.{append-nil}
use Rattle.std.proofs.lemmas.List.Elements.{filter-append}
use Rattle.remote_write.specs.Format.{SampleValue}
use Rattle.remote_write.specs.Reading.{sample_seen}
use Rattle.remote_write.specs.declared.sample.Sample.{Sample}
use Rattle.remote_requests.specs.declared.left.Left.{Left}
use Rattle.remote_requests.specs.declared.left.LeftOut.{LeftOut}
use Rattle.remote_requests.specs.Left.{Adds, times}
use Rattle.remote_requests.specs.Series.{time_refused, times_refused, kept_of, is_kept}
use Rattle.remote_requests.specs.Series.{reason_before, IsSampleOf}
use Rattle.remote_requests.proofs.Lists.{zip_more, map_turn, map_end}
use Rattle.remote_requests.proofs.Tallies.{adds_then}

reason-append : (why : Option LeftOut) (xs ys : List LeftOut)
    → reason_before why (xs ++ ys) ≡ reason_before why xs ++ ys
reason-append None xs ys = refl
reason-append (Some why) xs ys = refl

refused-append : (now : ℤ) (xs : List SampleValue) (s : SampleValue)
    → times_refused now (xs ++ s ∷ [])
    ≡ times_refused now xs ++ reason_before (time_refused now s) []
refused-append now [] s = refl
refused-append now (x ∷ xs) s =
    ap (reason_before (time_refused now x)) (refused-append now xs s)
    ∙ reason-append (time_refused now x) (times_refused now xs)
    (reason_before (time_refused now s) [])

-- the samples that are kept, and what is left out of them
pub record SoFar (now : ℤ) (seen : List SampleValue) (kept : List (ℤ × ℤ)) (old new : Left)
    : Type 0 where
  pub each : AllZip IsSampleOf (kept_of now seen) kept
  pub left : Adds old new (times_refused now seen)

pub one_kept : (now : ℤ) (seen : List SampleValue) (kept : List (ℤ × ℤ)) (old new : Left)
    (s : SampleValue) (k : ℤ × ℤ) → SoFar now seen kept old new → time_refused now s ≡ None
    → IsSampleOf s k → SoFar now (seen ++ s ∷ []) (kept ++ k ∷ []) old new
one_kept now seen kept old new s k so_far none is = record {
  each =
      let one : filter (is_kept now) (s ∷ []) ≡ s ∷ [] = rw none refl in
      rw (filter-append (is_kept now) seen (s ∷ []), one) (zip_more IsSampleOf (kept_of now seen)
      kept s k so_far.each is);
  left =
      let grown : times_refused now (seen ++ s ∷ []) ≡ times_refused now seen =
      refused-append now seen s ∙ rw none (append-nil (times_refused now seen)) in
      subst (Adds old new) (sym grown) so_far.left;
}

pub one_left : (now : ℤ) (seen : List SampleValue) (kept : List (ℤ × ℤ)) (old mid new : Left)
    (s : SampleValue) (why : LeftOut) → SoFar now seen kept old mid
    → time_refused now s ≡ Some why → Adds mid new (times 1 why)
    → SoFar now (seen ++ s ∷ []) kept old new
one_left now seen kept old mid new s why so_far some is = record {
  each =
      let none : filter (is_kept now) (s ∷ []) ≡ [] = rw some refl in
      rw (filter-append (is_kept now) seen (s ∷ []), none, append-nil (kept_of now seen))
      so_far.each;
  left =
      let grown : times_refused now (seen ++ s ∷ []) ≡ times_refused now seen ++ why ∷ [] =
      refused-append now seen s ∙ rw some refl in
      subst (Adds old new) (sym grown) (adds_then old mid new (times_refused now seen)
      (times 1 why) so_far.left is);
}

pub keep_turn : (now : ℤ) (xs : List Sample) (i : ℕ) (x d : Sample) (kept next : List (ℤ × ℤ))
    (k : ℤ × ℤ) (old mid new : Left) → i < length xs → x ≡ get_or xs i d
    → SoFar now (map sample_seen (take i xs)) kept old mid
    → time_refused now (sample_seen x) ≡ None → IsSampleOf (sample_seen x) k
    → next ≡ kept ++ k ∷ [] → new ≡ mid
    → SoFar now (map sample_seen (take (i + 1) xs)) next old new
keep_turn now xs i x d kept next k old mid new lt at so_far none is e same =
    rw (map_turn sample_seen xs i x d lt at, e, same) (one_kept now
    (map sample_seen (take i xs)) kept old mid (sample_seen x) k so_far none is)

pub leave_turn : (now : ℤ) (xs : List Sample) (i : ℕ) (x d : Sample) (kept next : List (ℤ × ℤ))
    (why : LeftOut) (old mid added new : Left) → i < length xs → x ≡ get_or xs i d
    → SoFar now (map sample_seen (take i xs)) kept old mid
    → time_refused now (sample_seen x) ≡ Some why → Adds mid added (times 1 why)
    → next ≡ kept → new ≡ added
    → SoFar now (map sample_seen (take (i + 1) xs)) next old new
leave_turn now xs i x d kept next why old mid added new lt at so_far some is e same =
    rw (map_turn sample_seen xs i x d lt at, e, same) (one_left now
    (map sample_seen (take i xs)) kept old mid added (sample_seen x) why so_far some is)

pub all_left : (a now : ℤ) (xs : List Sample) (i : ℕ) (kept : List (ℤ × ℤ)) (old new : Left)
    → a ≡ now → length xs ≤ i → SoFar a (map sample_seen (take i xs)) kept old new
    → Adds old new (times_refused now (map sample_seen xs))
all_left a now xs i kept old new same end so_far =
    subst (λ (z : ℤ). Adds old new (times_refused z (map sample_seen xs))) same
    (subst (λ (seen : List SampleValue). Adds old new (times_refused a seen))
    (map_end sample_seen xs i end) so_far.left)
