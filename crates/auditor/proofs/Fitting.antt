-- Whether the series of a run fit under a verdict.
use Rattle.std.proofs.Common.{◌≡◌, ℕ, zero, suc, ◌<◌, ◌≤◌, true, false, cond, inl, inr, List, [], ◌∷◌, length, None, Some, refl, sym, ◌∙◌, ap, subst, arith}
use Rattle.std.specs.Prelude.{nat_le, nat_lt, nat_eq, ◌&&◌, not}
use Rattle.std.specs.List.{filter, Contains}
use Rattle.std.specs.List.Sorted.{IsStrictlyIncreasing}
use Rattle.std.proofs.lemmas.Bool.Decides.{nat_tests}
use Rattle.labels.specs.Labels.{Labels}
use Rattle.labels.specs.Parts.{Part, references, has_sample}
use Rattle.labels.specs.Ascending.{first_or_end}
use Rattle.labels.proofs.Lists.{here, there, Contains-cases, none_in_nil, rising-tail, rising-head, filter-same, filter-from, filter-filter, filter-all, first-least}
use Rattle.matchers.specs.Satisfies.{satisfies, satisfies_all}
use Rattle.matchers.specs.Views.{MatcherView, QueryView}
use Rattle.cover.specs.declared.certificate.Interval.{Interval}
use Rattle.cover.specs.declared.certificate.Verdict.{Verdict}
use Rattle.cover.specs.declared.certificate.Verdict.TheVariants.{Match, NoSample, Rejected}
use Rattle.cover.specs.Asking.{asked, labels_at, samples_at, satisfies_at}
use Rattle.cover.specs.Certificates.{IsMatching, FitsUnder, run_of, next_from, IsChained}
use Rattle.cover.proofs.Runs.{AllForward}
use Rattle.reply_reader.proofs.Booleans.{and_left, and_right, and_both, not_true, true_not, either, all_true, true_all}
use Rattle.auditor.specs.Auditing.{names_known, all_known, AllFit, IsFirstMisfit}
use Rattle.auditor.specs.Looking.{rows_below, rows_from, answers, are_silent, are_rejected, is_one_match, fits, first_misfit}
use Rattle.auditor.proofs.Splitting.{Entry, references-filter, has_reference, of_reference, from_twice}

pub labels_of : (part : Part) (row : Entry) → IsStrictlyIncreasing (references part)
    → Contains part row → labels_at part row.0 ≡ row.1.0
labels_of [] row rises c = absurd (none_in_nil row c)
labels_of (y ∷ ys) row rises c = elim (Contains-cases y ys row c) [
  | inl e ↦
      let q : y.0 ≡ row.0 = ap (λ (x : Entry). x.0) e in
      let t : nat_eq y.0 row.0 ≡ true = grind (arith, nat_tests) in
      rw t (ap (λ (x : Entry). x.1.0) e)
  | inr d ↦
      let l : y.0 < row.0 = rising-head y.0 (references ys) rises row.0 (has_reference ys row d) in
      let t : nat_eq y.0 row.0 ≡ false = grind (arith, nat_tests) in
      let ih : labels_at ys row.0 ≡ row.1.0 =
      labels_of ys row (rising-tail y.0 (references ys) rises) d in
      rw t ih
]

pub samples_of : (part : Part) (row : Entry) → IsStrictlyIncreasing (references part)
    → Contains part row → samples_at part row.0 ≡ row.1.1
samples_of [] row rises c = absurd (none_in_nil row c)
samples_of (y ∷ ys) row rises c = elim (Contains-cases y ys row c) [
  | inl e ↦
      let q : y.0 ≡ row.0 = ap (λ (x : Entry). x.0) e in
      let t : nat_eq y.0 row.0 ≡ true = grind (arith, nat_tests) in
      rw t (ap (λ (x : Entry). x.1.1) e)
  | inr d ↦
      let l : y.0 < row.0 = rising-head y.0 (references ys) rises row.0 (has_reference ys row d) in
      let t : nat_eq y.0 row.0 ≡ false = grind (arith, nat_tests) in
      let ih : samples_at ys row.0 ≡ row.1.1 =
      samples_of ys row (rising-tail y.0 (references ys) rises) d in
      rw t ih
]

each_satisfied : (ms : List MatcherView) (labels : Labels)
    → ((j : ℕ) → j < length ms → satisfies_at ms j labels ≡ true) → satisfies_all ms labels ≡ true
each_satisfied [] labels h = refl
each_satisfied (m ∷ ms) labels h =
    let first : satisfies m labels ≡ true = h 0 (omega arith) in
    let rest : satisfies_all ms labels ≡ true =
    each_satisfied ms labels (λ j l. h (suc j) (omega (arith, l))) in
    and_both (satisfies m labels) (satisfies_all ms labels) first rest

satisfied_each : (ms : List MatcherView) (labels : Labels) (j : ℕ) → satisfies_all ms labels ≡ true
    → j < length ms → satisfies_at ms j labels ≡ true
satisfied_each [] labels j h l = absurd (omega (arith, l))
satisfied_each (m ∷ ms) labels zero h l = and_left (satisfies m labels) (satisfies_all ms labels) h
satisfied_each (m ∷ ms) labels (suc j) h l =
    satisfied_each ms labels j
    (and_right (satisfies m labels) (satisfies_all ms labels) h) (omega (arith, l))

-- these series are of the part
abbrev pub AreOf : Part → Part → Type 0
AreOf part rows = (row : Entry) → Contains rows row → Contains part row

module _ (part : Part) (q : QueryView) (rises : IsStrictlyIncreasing (references part)) where
  live_is : (row : Entry) → Contains part row
      → (asked part q).live row.0 ≡ has_sample q.from q.to row.1.1
  live_is row c = ap (has_sample q.from q.to) (samples_of part row rises c)

  accepts_is : (j : ℕ) (row : Entry) → Contains part row
      → (asked part q).accepts j row.0 ≡ satisfies_at q.matchers j row.1.0
  accepts_is j row c = ap (satisfies_at q.matchers j) (labels_of part row rises c)

  pub silent_fits : (rows : Part) → AreOf part rows → are_silent q rows ≡ true → (r : ℕ)
      → Contains (references rows) r → (asked part q).live r ≡ false
  silent_fits rows of h r c =
      let row : (row : Entry) × (Contains rows row × (row.0 ≡ r)) = of_reference rows r c in
      ap (asked part q).live (sym row.1.1) ∙ live_is row.0 (of row.0 row.1.0)
      ∙ not_true (has_sample q.from q.to row.0.1.1)
      (all_true (λ (row : Entry). not (has_sample q.from q.to row.1.1)) rows h row.0 row.1.0)

  pub fits_silent : (rows : Part) → AreOf part rows
      → ((r : ℕ) → Contains (references rows) r → (asked part q).live r ≡ false)
      → are_silent q rows ≡ true
  fits_silent rows of h =
      true_all (λ (row : Entry). not (has_sample q.from q.to row.1.1)) rows (λ row c.
      true_not (has_sample q.from q.to row.1.1) (sym (live_is row (of row c))
      ∙ h row.0 (has_reference rows row c)))

  pub rejected_fits : (j : ℕ) (rows : Part) → AreOf part rows → are_rejected q j rows ≡ true
      → (r : ℕ) → Contains (references rows) r → (asked part q).accepts j r ≡ false
  rejected_fits j rows of h r c =
      let row : (row : Entry) × (Contains rows row × (row.0 ≡ r)) = of_reference rows r c in
      ap ((asked part q).accepts j) (sym row.1.1) ∙ accepts_is j row.0 (of row.0 row.1.0)
      ∙ not_true (satisfies_at q.matchers j row.0.1.0)
      (all_true (λ (row : Entry). not (satisfies_at q.matchers j row.1.0)) rows h row.0 row.1.0)

  pub fits_rejected : (j : ℕ) (rows : Part) → AreOf part rows
      → ((r : ℕ) → Contains (references rows) r → (asked part q).accepts j r ≡ false)
      → are_rejected q j rows ≡ true
  fits_rejected j rows of h =
      true_all (λ (row : Entry). not (satisfies_at q.matchers j row.1.0)) rows (λ row c.
      true_not (satisfies_at q.matchers j row.1.0) (sym (accepts_is j row (of row c))
      ∙ h row.0 (has_reference rows row c)))

  answers_match : (row : Entry) → Contains part row → answers q row ≡ true
      → IsMatching (asked part q) row.0
  answers_match row c h = (
    λ j l. accepts_is j row c
        ∙ satisfied_each q.matchers row.1.0 j
        (and_left (satisfies_all q.matchers row.1.0) (has_sample q.from q.to row.1.1) h) l,
    live_is row c ∙ and_right (satisfies_all q.matchers row.1.0) (has_sample q.from q.to row.1.1) h,
  )

  match_answers : (row : Entry) → Contains part row → IsMatching (asked part q) row.0
      → answers q row ≡ true
  match_answers row c h =
      and_both (satisfies_all q.matchers row.1.0) (has_sample q.from q.to row.1.1)
      (each_satisfied q.matchers row.1.0 (λ j l. sym (accepts_is j row c) ∙ h.0 j l))
      (sym (live_is row c) ∙ h.1)

  one_fits : (rows : Part) → AreOf part rows → is_one_match q rows ≡ true
      → FitsUnder (asked part q) Match (references rows)
  one_fits [] of h = cc
  one_fits (row ∷ []) of h = (row.0, refl, answers_match row (of row (here row [])) h)
  one_fits (row ∷ other ∷ rows) of h = cc

  fits_one : (rows : Part) → AreOf part rows → FitsUnder (asked part q) Match (references rows)
      → is_one_match q rows ≡ true
  fits_one [] of h = absurd (let e : [] ≡ h.0 ∷ [] = h.1 in cc)
  fits_one (row ∷ []) of h =
      let e : row.0 ≡ h.0 = let f : row.0 ∷ [] ≡ h.0 ∷ [] = h.1 in cc in
      match_answers row (of row (here row [])) (subst (IsMatching (asked part q)) (sym e) h.2)
  fits_one (row ∷ other ∷ rows) of h =
      absurd (let e : row.0 ∷ other.0 ∷ references rows ≡ h.0 ∷ [] = h.1 in cc)

  pub test_fits : (v : Verdict) (rows : Part) → names_known (length q.matchers) v ≡ true
      → AreOf part rows → fits q v rows ≡ true → FitsUnder (asked part q) v (references rows)
  test_fits Match rows known of h = one_fits rows of h
  test_fits NoSample rows known of h = silent_fits rows of h
  test_fits (Rejected j) rows known of h =
      (let l : j < length q.matchers = grind (arith, nat_tests) in l, rejected_fits j rows of h)

  pub fits_test : (v : Verdict) (rows : Part) → AreOf part rows
      → FitsUnder (asked part q) v (references rows) → fits q v rows ≡ true
  fits_test Match rows of h = fits_one rows of h
  fits_test NoSample rows of h = fits_silent rows of h
  fits_test (Rejected j) rows of h = fits_rejected j rows of h.1

-- the series that are left begin where the intervals do
pub record IsTail (part : Part) (c : List Interval) (rows : Part) : Type 0 where
  pub chained : IsChained c
  pub ahead : AllForward c
  pub left : rows ≡ rows_from (next_from c) part

pub tail_whole : (part : Part) (c : List Interval) → IsStrictlyIncreasing (references part)
    → IsChained c → AllForward c → next_from c ≡ first_or_end (references part) → IsTail part c part
tail_whole part c rises ch ahead first = record {
  chained = ch;
  ahead = ahead;
  left = sym (filter-all (λ (row : Entry). nat_le (next_from c) row.0) part (λ row m.
      let l : first_or_end (references part) ≤ row.0 =
      first-least (references part) row.0 rises (has_reference part row m) in
      grind (arith, nat_tests)));
}

module _ (part : Part) (q : QueryView) (rises : IsStrictlyIncreasing (references part)) where
  tail_next : (i : Interval) (is : List Interval) (rows : Part) → IsTail part (i ∷ is) rows
      → IsTail part is (rows_from i.until rows)
  tail_next i is rows tail = record {
    chained = tail.chained.1;
    ahead = λ k m. tail.ahead k (there i k is m);
    left =
        let forward : i.from < i.until = tail.ahead i (here i is) in
        ap (rows_from i.until) tail.left
        ∙ from_twice i.from i.until part (omega arith)
        ∙ ap (λ (n : ℕ). rows_from n part) tail.chained.0;
  }

  run_rows : (i : Interval) (is : List Interval) (rows : Part) → IsTail part (i ∷ is) rows
      → rows_below i.until rows
      ≡ filter (λ (row : Entry). nat_le i.from row.0 && nat_lt row.0 i.until) part
  run_rows i is rows tail =
      ap (rows_below i.until) tail.left
      ∙ filter-filter (λ (row : Entry). nat_lt row.0 i.until)
      (λ (row : Entry). nat_le i.from row.0) part
      ∙ filter-same (λ (row : Entry). nat_lt row.0 i.until && nat_le i.from row.0) (λ (row : Entry).
      nat_le i.from row.0 && nat_lt row.0 i.until) part (λ row c. grind (arith, nat_tests))

  run_references : (i : Interval) (is : List Interval) (rows : Part) → IsTail part (i ∷ is) rows
      → references (rows_below i.until rows) ≡ run_of (asked part q) i
  run_references i is rows tail =
      ap references (run_rows i is rows tail)
      ∙ references-filter (λ r. nat_le i.from r && nat_lt r i.until) part

  run_of_part : (i : Interval) (is : List Interval) (rows : Part) → IsTail part (i ∷ is) rows
      → AreOf part (rows_below i.until rows)
  run_of_part i is rows tail row c =
      (filter-from (λ (row : Entry). nat_le i.from row.0 && nat_lt row.0 i.until) part row
      (subst (λ (xs : Part). Contains xs row) (run_rows i is rows tail) c)).0

  run_fits : (i : Interval) (is : List Interval) (rows : Part) → IsTail part (i ∷ is) rows
      → names_known (length q.matchers) i.verdict ≡ true
      → fits q i.verdict (rows_below i.until rows) ≡ true
      → FitsUnder (asked part q) i.verdict (run_of (asked part q) i)
  run_fits i is rows tail known h =
      subst (FitsUnder (asked part q) i.verdict) (run_references i is rows tail) (test_fits part q
      rises i.verdict (rows_below i.until rows) known (run_of_part i is rows tail) h)

  fits_run : (i : Interval) (is : List Interval) (rows : Part) → IsTail part (i ∷ is) rows
      → FitsUnder (asked part q) i.verdict (run_of (asked part q) i)
      → fits q i.verdict (rows_below i.until rows) ≡ true
  fits_run i is rows tail h =
      fits_test part q rises i.verdict (rows_below i.until rows) (run_of_part i is rows tail)
      (subst (FitsUnder (asked part q) i.verdict) (sym (run_references i is rows tail)) h)

  pub none_misfits : (c : List Interval) (rows : Part) → IsTail part c rows
      → all_known (length q.matchers) c ≡ true → first_misfit q c rows ≡ None
      → AllFit (asked part q) c
  none_misfits [] rows tail known h = λ i m. absurd (none_in_nil i m)
  none_misfits (i ∷ is) rows tail known h =
      elim (either (fits q i.verdict (rows_below i.until rows))) [
        | inl e ↦
            let rest : first_misfit q is (rows_from i.until rows) ≡ None =
            sym (ap (λ b. cond b (first_misfit q is (rows_from i.until rows)) (Some i.verdict)) e)
            ∙ h in
            let known' : all_known (length q.matchers) is ≡ true =
            and_right (names_known (length q.matchers) i.verdict)
            (all_known (length q.matchers) is) known in
            let ih : AllFit (asked part q) is =
            none_misfits is (rows_from i.until rows) (tail_next i is rows tail) known' rest in
            let first : FitsUnder (asked part q) i.verdict (run_of (asked part q) i) =
            run_fits i is rows tail (and_left (names_known (length q.matchers) i.verdict)
            (all_known (length q.matchers) is) known) e in
            λ k m. elim (Contains-cases i is k m) [
              | inl same ↦
                  subst (λ (k : Interval).
                  FitsUnder (asked part q) k.verdict (run_of (asked part q) k))
                  same first
              | inr d ↦ ih k d
            ]
        | inr e ↦
            absurd (let f : Some i.verdict ≡ None =
            sym (ap (λ b. cond b (first_misfit q is (rows_from i.until rows)) (Some i.verdict)) e)
            ∙ h in cc)
      ]

  pub some_misfit : (c : List Interval) (rows : Part) (v : Verdict) → IsTail part c rows
      → all_known (length q.matchers) c ≡ true → first_misfit q c rows ≡ Some v
      → IsFirstMisfit (asked part q) c v
  some_misfit [] rows v tail known h = cc
  some_misfit (i ∷ is) rows v tail known h =
      elim (either (fits q i.verdict (rows_below i.until rows))) [
        | inl e ↦
            let rest : first_misfit q is (rows_from i.until rows) ≡ Some v =
            sym (ap (λ b. cond b (first_misfit q is (rows_from i.until rows)) (Some i.verdict)) e)
            ∙ h in
            let known' : all_known (length q.matchers) is ≡ true =
            and_right (names_known (length q.matchers) i.verdict)
            (all_known (length q.matchers) is) known in
            let ih : IsFirstMisfit (asked part q) is v =
            some_misfit is (rows_from i.until rows) v (tail_next i is rows tail) known' rest in
            let first : FitsUnder (asked part q) i.verdict (run_of (asked part q) i) =
            run_fits i is rows tail (and_left (names_known (length q.matchers) i.verdict)
            (all_known (length q.matchers) is) known) e in
            inr (first, ih)
        | inr e ↦
            let f : Some i.verdict ≡ Some v =
            sym (ap (λ b. cond b (first_misfit q is (rows_from i.until rows)) (Some i.verdict)) e)
            ∙ h in
            let g : i.verdict ≡ v = cc in
            inl (
              λ fit. absurd (let t : fits q i.verdict (rows_below i.until rows) ≡ true =
                  fits_run i is rows tail fit in cc),
              g,
            )
      ]
