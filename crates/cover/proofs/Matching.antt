-- the intervals under Match stand for the references that match
use Rattle.std.proofs.Common.{◌≡◌, ℕ, ◌<◌, Bool, true, false, cond, inl, inr, List, [], ◌∷◌, map, refl, sym, ◌∙◌, subst, arith}
use Rattle.std.specs.List.{filter, flat_map, Contains}
use Rattle.std.specs.List.Sorted.{IsStrictlyIncreasing}
use Rattle.labels.proofs.Lists.{Contains-cases, none_in_nil, filter-has, filter-from, rising-cons, rising-tail, rising-head}
use Rattle.cover.specs.declared.certificate.Interval.{Interval}
use Rattle.cover.specs.declared.certificate.Verdict.{Verdict}
use Rattle.cover.specs.declared.certificate.Verdict.TheVariants.{Match, NoSample, Rejected}
use Rattle.cover.specs.Certificates.{Asked, IsMatching, FitsUnder, run_of, IsValidCertificate, begins_of, is_match, matches_of, AreMatches}
use Rattle.cover.proofs.Runs.{of_run, in_some, valid_forward, begins_rise, of_begins, map-has}

kept_cons : (b : Bool) (i : Interval) (kept : List Interval)
    → ((s : ℕ) → Contains (begins_of kept) s → i.from < s)
    → IsStrictlyIncreasing (begins_of kept)
    → IsStrictlyIncreasing (begins_of (cond b (i ∷ kept) kept))
kept_cons true i kept above rest = rising-cons i.from (begins_of kept) above rest
kept_cons false i kept above rest = rest

-- where only some of the intervals are kept, their first references still rise
kept_rise : (p : Interval → Bool) (c : List Interval) → IsStrictlyIncreasing (begins_of c)
    → IsStrictlyIncreasing (begins_of (filter p c))
kept_rise p [] h = h
kept_rise p (i ∷ is) h =
    kept_cons (p i) i (filter p is)
    (λ s m.
    let k : (k : Interval) × (Contains (filter p is) k × (k.from ≡ s)) =
    of_begins (filter p is) s m in
    let l : i.from < k.0.from =
    rising-head i.from (begins_of is) h k.0.from
    (map-has (λ (j : Interval). j.from) is k.0 (filter-from p is k.0 k.1.0).0) in
    omega (arith, k.1.1))
    (kept_rise p is (rising-tail i.from (begins_of is) h))

-- a run under Match is the interval's first reference, which matches
match_first : (a : Asked) (v : Verdict) (run : List ℕ) (r : ℕ) → is_match v ≡ true
    → FitsUnder a v run → Contains run r → IsMatching a r
match_first a Match run r t f c =
    let one : Contains (f.0 ∷ []) r = subst (λ (xs : List ℕ). Contains xs r) f.1 c in
    elim (Contains-cases f.0 [] r one) [
      | inl e ↦ subst (λ (x : ℕ). IsMatching a x) e f.2
      | inr d ↦ absurd (none_in_nil r d)
    ]
match_first a NoSample run r t f c = cc
match_first a (Rejected j) run r t f c = cc

-- a run with a reference that matches is under Match
matched_run : (a : Asked) (v : Verdict) (run : List ℕ) (r : ℕ) → FitsUnder a v run → Contains run r
    → IsMatching a r → is_match v ≡ true
matched_run a Match run r f c m = refl
matched_run a NoSample run r f c m = absurd (
    let silent : a.live r ≡ false = f r c in
    let lives : a.live r ≡ true = m.1 in
    cc)
matched_run a (Rejected j) run r f c m = absurd (
    let rejects : a.accepts j r ≡ false = f.1 r c in
    let takes : a.accepts j r ≡ true = m.0 j f.0 in
    cc)

-- two references of a run under Match are one
match_one : (a : Asked) (v : Verdict) (run : List ℕ) (r s : ℕ) → is_match v ≡ true
    → FitsUnder a v run → Contains run r → Contains run s → r ≡ s
match_one a Match run r s t f cr cs =
    let one_r : Contains (f.0 ∷ []) r = subst (λ (xs : List ℕ). Contains xs r) f.1 cr in
    let one_s : Contains (f.0 ∷ []) s = subst (λ (xs : List ℕ). Contains xs s) f.1 cs in
    elim (Contains-cases f.0 [] r one_r) [
      | inl er ↦ elim (Contains-cases f.0 [] s one_s) [
        | inl es ↦ sym er ∙ es
        | inr d ↦ absurd (none_in_nil s d)
      ]
      | inr d ↦ absurd (none_in_nil r d)
    ]
match_one a NoSample run r s t f cr cs = cc
match_one a (Rejected j) run r s t f cr cs = cc

pub valid_matches : (a : Asked) (c : List Interval) → IsValidCertificate a c
    → AreMatches a (matches_of c)
valid_matches a c v = record {
  ascending =
      kept_rise (λ (i : Interval). is_match i.verdict) c
      (begins_rise c v.chained (valid_forward a c v));
  matching = λ r m.
      let i : (i : Interval)
      × (Contains (filter (λ (i : Interval). is_match i.verdict) c) i × (i.from ≡ r)) =
      of_begins (filter (λ (i : Interval). is_match i.verdict) c) r m in
      let k : Contains c i.0 × (is_match i.0.verdict ≡ true) =
      filter-from (λ (i : Interval). is_match i.verdict) c i.0 i.1.0 in
      let run : Contains (run_of a i.0) i.0.from = v.begins i.0 k.0 in (
        subst (λ (x : ℕ). Contains a.references x) i.1.1 (of_run a i.0 i.0.from run).0,
        subst (λ (x : ℕ). IsMatching a x) i.1.1
            (match_first a i.0.verdict (run_of a i.0) i.0.from k.1 (v.fits i.0 k.0) run),
      );
  every = λ r m matching.
      let inside : Contains (flat_map (λ (run : List ℕ). run) (map (run_of a) c)) r =
      subst (λ (xs : List ℕ). Contains xs r) (sym v.partition.whole) m in
      let i : (i : Interval) × (Contains c i × Contains (run_of a i) r) = in_some a c r inside in
      let t : is_match i.0.verdict ≡ true =
      matched_run a i.0.verdict (run_of a i.0) r (v.fits i.0 i.1.0) i.1.1 matching in
      let same : i.0.from ≡ r =
      match_one a i.0.verdict (run_of a i.0) i.0.from r t (v.fits i.0 i.1.0)
      (v.begins i.0 i.1.0) i.1.1 in
      subst (λ (x : ℕ). Contains (matches_of c) x) same
      (map-has (λ (j : Interval). j.from) (filter (λ (i : Interval). is_match i.verdict) c) i.0
      (filter-has (λ (i : Interval). is_match i.verdict) c i.0 i.1.0 t));
}
