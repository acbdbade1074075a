-- a leftmost certificate is least, and its first references are separators
use Rattle.std.proofs.Common.{◌≡◌, ℕ, suc, ◌<◌, ◌≤◌, inl, inr, List, [], ◌∷◌, length, map, refl, sym, ◌∙◌, ap, arith}
use Rattle.std.specs.List.{flat_map, Contains}
use Rattle.std.specs.List.Sorted.{IsStrictlyIncreasing}
use Rattle.labels.proofs.Lists.{here, there, Contains-cases, none_in_nil, rising-tail, rising-head, below_or_not}
use Rattle.cover.specs.declared.certificate.Interval.{Interval}
use Rattle.cover.specs.declared.certificate.Verdict.{Verdict}
use Rattle.cover.specs.declared.certificate.Verdict.TheVariants.{Match, NoSample, Rejected}
use Rattle.cover.specs.Certificates.{Asked, IsAsked, references_between, FitsUnder, IsFittingRun, run_of, next_from, IsChained, IsValidCertificate, IsLeast, AreSeparators, IsLeftmost, begins_of}
use Rattle.cover.proofs.Runs.{in_run, of_run, in_between, of_between, begins_not_below, in_some, valid_forward, map-has, of_begins, begins_rise, ends_before}
use Rattle.cover.proofs.Longest.{leftmost_far}

-- of numbers from where a chain begins to the end of all references, no two in one interval, there
-- are no more than intervals
pigeon : (c : List Interval) (seps : List ℕ) → IsChained c → IsStrictlyIncreasing seps
    → ((s : ℕ) → Contains seps s → (next_from c ≤ s) × (s < 4294967296))
    → ((i : Interval) → Contains c i → (r s : ℕ) → Contains seps r → Contains seps s → r < s
    → i.from ≤ r → s < i.until → ⊥)
    → length seps ≤ length c
pigeon c [] ch rising bounds apart = omega arith
pigeon [] (s ∷ ss) ch rising bounds apart =
    absurd (let b : (4294967296 ≤ s) × (s < 4294967296) = bounds s (here s ss) in omega arith)
pigeon (i ∷ is) (s ∷ ss) ch rising bounds apart =
    elim (below_or_not s i.until) [
      | inl inside ↦
          let ih : length ss ≤ length is = pigeon is ss ch.1 (rising-tail s ss rising)
          (λ t m.
          let b : (next_from (i ∷ is) ≤ t) × (t < 4294967296) = bounds t (there s t ss m) in (
            elim (below_or_not t i.until) [
              | inl wrong ↦
                  absurd (apart i (here i is) s t (here s ss) (there s t ss m)
                  (rising-head s ss rising t m) (bounds s (here s ss)).0 wrong)
              | inr right ↦ omega (arith, ch.0)
            ],
            b.1,
          ))
          (λ k m r t mr mt. apart k (there i k is m) r t (there s r ss mr) (there s t ss mt)) in
          omega arith
      | inr past ↦
          let ih : length (s ∷ ss) ≤ length is = pigeon is (s ∷ ss) ch.1 rising
          (λ t m.
          let b : (next_from (i ∷ is) ≤ t) × (t < 4294967296) = bounds t m in (
            elim (Contains-cases s ss t m) [
              | inl e ↦ omega (arith, ch.0)
              | inr d ↦ let lt : s < t = rising-head s ss rising t d in omega (arith, ch.0)
            ],
            b.1,
          ))
          (λ k m. apart k (there i k is m)) in
          omega arith
    ]

-- no valid certificate has fewer intervals than there are separators
pub separators_bound : (a : Asked) (seps : List ℕ) (c : List Interval) → IsAsked a
    → AreSeparators a seps → IsValidCertificate a c → length seps ≤ length c
separators_bound a seps c part sep v =
    pigeon c seps v.chained sep.ascending
    (λ s m.
    let inside : Contains (flat_map (λ (run : List ℕ). run) (map (run_of a) c)) s =
    rw v.partition.whole (sep.of_part s m) in
    let k : (i : Interval) × (Contains c i × Contains (run_of a i) s) = in_some a c s inside in
    let b : Contains a.references s × (k.0.from ≤ s) × (s < k.0.until) = of_run a k.0 s k.1.1 in
    let low : next_from c ≤ k.0.from =
    begins_not_below c v.chained (valid_forward a c v) k.0 k.1.0 in
    (omega arith, part.in_range s (sep.of_part s m)))
    (λ i m r s mr ms lt low high.
    sep.apart r s mr ms lt (run_of a i)
    (record {
      is_run = v.partition.each (run_of a i) (map-has (run_of a) c i m);
      verdict = i.verdict;
      fits = v.fits i m;
    })
    (in_run a i r (sep.of_part r mr) low (omega arith))
    (in_run a i s (sep.of_part s ms) (omega arith) high))

one_of_one : (x r s : ℕ) (run : List ℕ) → run ≡ x ∷ [] → Contains run r → Contains run s → r ≡ s
one_of_one x r s run e hr hs =
    let cr : Contains (x ∷ []) r = rw e at hr in
    let cs : Contains (x ∷ []) s = rw e at hs in
    elim (Contains-cases x [] r cr) [
      | inl er ↦ elim (Contains-cases x [] s cs) [
        | inl es ↦ sym er ∙ es
        | inr d ↦ absurd (none_in_nil s d)
      ]
      | inr d ↦ absurd (none_in_nil r d)
    ]

-- the part of a fitting run from one of its references on, where a second one follows
fits_on : (a : Asked) (v : Verdict) (low high r s : ℕ) → FitsUnder a v (references_between a low high)
    → Contains (references_between a low high) r → Contains (references_between a low high) s → r < s
    → FitsUnder a v (references_between a r high)
fits_on a Match low high r s f hr hs lt =
    absurd (let same : r ≡ s = one_of_one f.0 r s (references_between a low high) f.1 hr hs in omega arith)
fits_on a NoSample low high r s f hr hs lt = λ q h.
    let k : Contains a.references q × (r ≤ q) × (q ≤ high) = of_between a r high q h in
    let l : Contains a.references r × (low ≤ r) × (r ≤ high) = of_between a low high r hr in
    f q (in_between a low high q k.0 (omega arith) k.2)
fits_on a (Rejected j) low high r s f hr hs lt = (
  f.0,
  λ q h.
      let k : Contains a.references q × (r ≤ q) × (q ≤ high) = of_between a r high q h in
      let l : Contains a.references r × (low ≤ r) × (r ≤ high) = of_between a low high r hr in
      f.1 q (in_between a low high q k.0 (omega arith) k.2),
)

pub leftmost_separates : (a : Asked) (c : List Interval) → IsAsked a → IsLeftmost a c
    → AreSeparators a (begins_of c)
leftmost_separates a c part left = record {
  ascending = begins_rise c left.valid.chained (valid_forward a c left.valid);
  of_part = λ r m.
      let k : (i : Interval) × (Contains c i × (i.from ≡ r)) = of_begins c r m in
      rw (← k.1.1) (of_run a k.0 k.0.from (left.valid.begins k.0 k.1.0)).0;
  apart = λ r s mr ms lt run fit hr hs.
      let i : (i : Interval) × (Contains c i × (i.from ≡ r)) = of_begins c r mr in
      let k : (k : Interval) × (Contains c k × (k.from ≡ s)) = of_begins c s ms in
      let past : i.0.until ≤ k.0.from =
      ends_before c left.valid.chained (valid_forward a c left.valid) i.0 k.0 i.1.0 k.1.0
      (omega (arith, i.1.1, k.1.1)) in
      let hr' : Contains (references_between a fit.is_run.low fit.is_run.high) r = rw (← fit.is_run.is) hr in
      let hs' : Contains (references_between a fit.is_run.low fit.is_run.high) s = rw (← fit.is_run.is) hs in
      let fits' : FitsUnder a fit.verdict (references_between a fit.is_run.low fit.is_run.high) =
      rw (← fit.is_run.is) fit.fits in
      let bs : Contains a.references s × (fit.is_run.low ≤ s) × (s ≤ fit.is_run.high) =
      of_between a _ _ s hs' in
      let br : Contains a.references r × (fit.is_run.low ≤ r) × (r ≤ fit.is_run.high) =
      of_between a _ _ r hr' in
      let on : FitsUnder a fit.verdict (references_between a r fit.is_run.high) =
      fits_on a fit.verdict fit.is_run.low fit.is_run.high r s fits' hr' hs' lt in
      let whole : IsFittingRun a (references_between a r fit.is_run.high) = record {
        is_run = record {
          low = r;
          high = fit.is_run.high;
          has_low = br.0;
          has_high = fit.is_run.has_high;
          ordered = br.2;
          is = refl;
        };
        verdict = fit.verdict;
        fits = on;
      } in
      let far : fit.is_run.high < i.0.until =
      leftmost_far a c part left i.0 i.1.0 fit.is_run.high fit.is_run.has_high (rw i.1.1 whole) in
      omega (arith, k.1.1);
}

pub length-begins : (c : List Interval) → length (begins_of c) ≡ length c
length-begins [] = refl
length-begins (i ∷ is) = ap suc (length-begins is)

pub leftmost_least : (a : Asked) (c : List Interval) → IsAsked a → IsLeftmost a c → IsLeast a c
leftmost_least a c part left = λ other v.
    let b : length (begins_of c) ≤ length other =
    separators_bound a (begins_of c) other part (leftmost_separates a c part left) v in
    omega (arith, length-begins c)
