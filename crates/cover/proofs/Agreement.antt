-- a certificate is leftmost for whatever accepts the same references
use Rattle.std.proofs.Common.{◌≡◌, ℕ, ◌<◌, Bool, List, [], sym, ◌∙◌, subst}
use Rattle.std.specs.List.{filter, Contains}
use Rattle.labels.proofs.Lists.{here, filter-from}
use Rattle.cover.specs.declared.certificate.Interval.{Interval}
use Rattle.cover.specs.declared.certificate.Verdict.{Verdict}
use Rattle.cover.specs.declared.certificate.Verdict.TheVariants.{Match, NoSample, Rejected}
use Rattle.cover.specs.Certificates.{Asked, IsRun, FitsUnder, run_of, NamesSmallest, IsLeftmost}
use Rattle.cover.proofs.Runs.{of_between}

abbrev pub asks : List ℕ → ℕ → (ℕ → ℕ → Bool) → (ℕ → Bool) → Asked
asks refs m f p = record { references = refs; matchers = m; accepts = f; live = p }

-- the tests agree on the references
abbrev pub Agree : List ℕ → ℕ → (ℕ → ℕ → Bool) → (ℕ → ℕ → Bool) → Type 0
Agree refs m f g = (j r : ℕ) → j < m → Contains refs r → f j r ≡ g j r

abbrev pub AgreeLive : List ℕ → (ℕ → Bool) → (ℕ → Bool) → Type 0
AgreeLive refs p q = (r : ℕ) → Contains refs r → p r ≡ q r

fits_too : (refs : List ℕ) (m : ℕ) (f g : ℕ → ℕ → Bool) (p q : ℕ → Bool) (v : Verdict)
    (run : List ℕ) → Agree refs m f g → AgreeLive refs p q
    → ((r : ℕ) → Contains run r → Contains refs r)
    → FitsUnder (asks refs m f p) v run → FitsUnder (asks refs m g q) v run
fits_too refs m f g p q Match run agree same sub fit =
    let one : Contains run fit.0 =
    subst (λ (xs : List ℕ). Contains xs fit.0) (sym fit.1) (here fit.0 []) in (
      fit.0,
      fit.1,
      (
        λ j l. sym (agree j fit.0 l (sub fit.0 one)) ∙ fit.2.0 j l,
        sym (same fit.0 (sub fit.0 one)) ∙ fit.2.1,
      ),
    )
fits_too refs m f g p q NoSample run agree same sub fit = λ r c. sym (same r (sub r c)) ∙ fit r c
fits_too refs m f g p q (Rejected j) run agree same sub fit =
    (fit.0, λ r c. sym (agree j r fit.0 (sub r c)) ∙ fit.1 r c)

of_filter : (refs : List ℕ) (p : ℕ → Bool) (r : ℕ) → Contains (filter p refs) r → Contains refs r
of_filter refs p r c = (filter-from p refs r c).0

run_too : (refs : List ℕ) (m : ℕ) (f g : ℕ → ℕ → Bool) (p q : ℕ → Bool) (run : List ℕ)
    → IsRun (asks refs m f p) run → IsRun (asks refs m g q) run
run_too refs m f g p q run r = record {
  low = r.low;
  high = r.high;
  has_low = r.has_low;
  has_high = r.has_high;
  ordered = r.ordered;
  is = r.is;
}

smallest_too : (refs : List ℕ) (m : ℕ) (f g : ℕ → ℕ → Bool) (p q : ℕ → Bool) (v : Verdict)
    (run : List ℕ) → Agree refs m f g → AgreeLive refs p q
    → ((r : ℕ) → Contains run r → Contains refs r)
    → NamesSmallest (asks refs m f p) v run → NamesSmallest (asks refs m g q) v run
smallest_too refs m f g p q Match run agree same sub small = tt
smallest_too refs m f g p q NoSample run agree same sub small =
    λ k fit. small k (fits_too refs m g f q p (Rejected k) run (λ i r l c. sym (agree i r l c))
    (λ r c. sym (same r c)) sub fit)
smallest_too refs m f g p q (Rejected j) run agree same sub small =
    λ k fit. small k (fits_too refs m g f q p (Rejected k) run (λ i r l c. sym (agree i r l c))
    (λ r c. sym (same r c)) sub fit)

run_sub : (a : Asked) (run : List ℕ) → IsRun a run → (r : ℕ) → Contains run r
    → Contains a.references r
run_sub a run is r c =
    (of_between a is.low is.high r (subst (λ (xs : List ℕ). Contains xs r) is.is c)).0

pub leftmost_too : (refs : List ℕ) (m : ℕ) (f g : ℕ → ℕ → Bool) (p q : ℕ → Bool) (c : List Interval)
    → Agree refs m f g → AgreeLive refs p q → IsLeftmost (asks refs m f p) c
    → IsLeftmost (asks refs m g q) c
leftmost_too refs m f g p q c agree same l = record {
  valid = record {
    partition = record {
      each = λ run h. run_too refs m f g p q run (l.valid.partition.each run h);
      whole = l.valid.partition.whole;
    };
    begins = l.valid.begins;
    chained = l.valid.chained;
    fits =
        λ i h. fits_too refs m f g p q i.verdict (run_of (asks refs m f p) i) agree same
        (λ r d. of_filter refs _ r d) (l.valid.fits i h);
  };
  longest = λ i h run fit begins. l.longest i h run (record {
    is_run = run_too refs m g f q p run fit.is_run;
    verdict = fit.verdict;
    fits =
        fits_too refs m g f q p fit.verdict run (λ j r lt d. sym (agree j r lt d))
        (λ r d. sym (same r d)) (λ r d. run_sub (asks refs m g q) run fit.is_run r d) fit.fits;
  }) begins;
  smallest =
      λ i h. smallest_too refs m f g p q i.verdict (run_of (asks refs m f p) i) agree same
      (λ r d. of_filter refs _ r d) (l.smallest i h);
}
