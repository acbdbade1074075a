-- Separators of a part, and those that share a fitting run.
use Rattle.std.proofs.Common.{◌≡◌, ℕ, zero, suc, ◌+◌, ◌<◌, ◌≤◌, Bool, true, false, cond, inl, inr, List, [], ◌∷◌, length, get_or, drop, Option, None, Some, refl, sym, ◌∙◌, ap, subst, arith}
use Rattle.std.specs.Prelude.{nat_le, nat_lt, ◌&&◌, ◌==◌, not}
use Rattle.std.specs.List.{filter, list_all, list_any, Contains}
use Rattle.std.specs.List.Sorted.{IsStrictlyIncreasing}
use Rattle.std.proofs.lemmas.Bool.Decides.{nat_tests}
use Rattle.labels.specs.Parts.{Part, references}
use Rattle.labels.specs.Ascending.{first_of}
use Rattle.labels.proofs.Lists.{here, there, Contains-cases, none_in_nil, rising-tail, rising-head, rising-cons, filter-same, filter-from, filter-has, filter-filter, not_below-here}
use Rattle.matchers.specs.Views.{MatcherView, QueryView}
use Rattle.cover.specs.declared.certificate.Verdict.{Verdict}
use Rattle.cover.specs.declared.certificate.Verdict.TheVariants.{Match, NoSample, Rejected}
use Rattle.cover.specs.Asking.{asked, satisfies_at}
use Rattle.cover.specs.Certificates.{references_between, IsRun, FitsUnder, IsFittingRun, AreSeparators}
use Rattle.cover.proofs.Runs.{in_between, of_between}
use Rattle.reply_reader.proofs.Neighbours.{from_read}
use Rattle.reply_reader.proofs.Booleans.{and_left, and_right, and_both, or_cases, or_left, or_right, either}
use Rattle.auditor.specs.Auditing.{ShareARun, ShareAt, IsFirstShared}
use Rattle.auditor.specs.Looking.{rows_below, rows_from, begin_with, after_first, are_picked, are_silent, rejects_each, are_rejected, share_verdict, first_shared}
use Rattle.auditor.proofs.Splitting.{Entry, references-filter, rises_from, from_twice}
use Rattle.auditor.proofs.Fitting.{AreOf, silent_fits, fits_silent, rejected_fits, fits_rejected}

-- each of them is a reference of the list
abbrev pub AreIn : List ℕ → List ℕ → Type 0
AreIn refs ss = (s : ℕ) → Contains ss s → Contains refs s

pub picked_are : (ss : List ℕ) (rows : Part) → IsStrictlyIncreasing (references rows)
    → are_picked ss rows ≡ true → IsStrictlyIncreasing ss × AreIn (references rows) ss
picked_are [] rows rises h = (λ k l. absurd (omega (arith, l)), λ s c. absurd (none_in_nil s c))
picked_are (s ∷ ss) rows rises h = go (rows_from s rows) refl (λ more up p. picked_are ss more up p)
  where
    go : (rest : Part) → rows_from s rows ≡ rest
        → ((more : Part) → IsStrictlyIncreasing (references more) → are_picked ss more ≡ true
        → IsStrictlyIncreasing ss × AreIn (references more) ss)
        → IsStrictlyIncreasing (s ∷ ss) × AreIn (references rows) (s ∷ ss)
    go [] e later =
        absurd (let f : (begin_with s [] && are_picked ss (after_first [])) ≡ true = subst
        (λ (rest : Part). (begin_with s rest && are_picked ss (after_first rest)) ≡ true) e h in cc)
    go (row ∷ more) e later =
        let f : ((row.0 == s) && are_picked ss more) ≡ true =
        subst (λ (rest : Part). (begin_with s rest && are_picked ss (after_first rest)) ≡ true) e
        h in
        let first : (row.0 == s) ≡ true = and_left (row.0 == s) (are_picked ss more) f in
        let same : row.0 ≡ s = grind (arith, nat_tests) in
        let up : IsStrictlyIncreasing (references (row ∷ more)) =
        subst (λ (rest : Part). IsStrictlyIncreasing (references rest)) e
        (rises_from s rows rises) in
        let ih : IsStrictlyIncreasing ss × AreIn (references more) ss =
        later more (rising-tail row.0 (references more) up)
        (and_right (row.0 == s) (are_picked ss more) f) in
        let back : (r : ℕ) → Contains (references (row ∷ more)) r
        → Contains (references rows) r = λ r c.
        (filter-from (λ r. nat_le s r) (references rows) r (subst (λ (rs : List ℕ). Contains rs r)
        (ap references (sym e) ∙ references-filter (λ r. nat_le s r) rows) c)).0 in (
          rising-cons s ss
              (λ t c. let l : row.0 < t = rising-head row.0 (references more) up t (ih.1 t c) in
              omega arith) ih.0,
          λ t c. elim (Contains-cases s ss t c) [
            | inl e ↦
                back t (subst (λ (r : ℕ). Contains (references (row ∷ more)) r) (same
                ∙ e) (here row.0 (references more)))
            | inr d ↦ back t (there row.0 t (references more) (ih.1 t d))
          ],
        )

pub are_picked-of : (ss : List ℕ) (rows : Part) → IsStrictlyIncreasing (references rows)
    → IsStrictlyIncreasing ss → AreIn (references rows) ss → are_picked ss rows ≡ true
are_picked-of [] rows rises up has = refl
are_picked-of (s ∷ ss) rows rises up has =
    go (rows_from s rows) refl (λ more rises' has'.
    are_picked-of ss more rises' (rising-tail s ss up) has')
  where
    first : first_of (references (rows_from s rows)) ≡ Some s
    first =
        ap first_of (references-filter (λ r. nat_le s r) rows)
        ∙ not_below-here (references rows) s rises (has s (here s ss))

    go : (rest : Part) → rows_from s rows ≡ rest
        → ((more : Part) → IsStrictlyIncreasing (references more) → AreIn (references more) ss
        → are_picked ss more ≡ true)
        → (begin_with s (rows_from s rows) && are_picked ss (after_first (rows_from s rows))) ≡ true
    go [] e later =
        absurd (let f : None ≡ Some s =
        sym (ap (λ (rest : Part). first_of (references rest)) e) ∙ first in cc)
    go (row ∷ more) e later =
        let f : Some row.0 ≡ Some s =
        sym (ap (λ (rest : Part). first_of (references rest)) e) ∙ first in
        let same : row.0 ≡ s = cc in
        let rises' : IsStrictlyIncreasing (references (row ∷ more)) =
        subst (λ (rest : Part). IsStrictlyIncreasing (references rest)) e
        (rises_from s rows rises) in
        let test : (row.0 == s) ≡ true = grind (arith, nat_tests) in
        let has' : AreIn (references more) ss = λ t c.
        let lt : s < t = rising-head s ss up t c in
        let in_rest : Contains (references (row ∷ more)) t =
        subst (λ (rs : List ℕ). Contains rs t) (sym (ap references (sym e)
        ∙ references-filter (λ r. nat_le s r) rows)) (filter-has (λ r. nat_le s r) (references rows)
        t (has t (there s t ss c)) (grind (arith, nat_tests))) in
        elim (Contains-cases row.0 (references more) t in_rest) [
          | inl e ↦ absurd (omega arith)
          | inr d ↦ d
        ] in
        let ih : are_picked ss more ≡ true =
        later more (rising-tail row.0 (references more) rises') has' in
        subst (λ (rest : Part). (begin_with s rest && are_picked ss (after_first rest)) ≡ true)
        (sym e) (and_both (row.0 == s) (are_picked ss more) test ih)

-- a matcher that accepts none, by its number
number_of : (ms : List MatcherView) (rows : Part)
    → list_any (λ matcher. rejects_each matcher rows) ms ≡ true → (j : ℕ)
    × ((j < length ms) × (list_all (λ (row : Entry). not (satisfies_at ms j row.1.0)) rows ≡ true))
number_of [] rows h = cc
number_of (m ∷ ms) rows h =
    elim (or_cases (rejects_each m rows) (list_any (λ matcher. rejects_each matcher rows) ms) h) [
      | inl e ↦ (0, (omega arith, e))
      | inr e ↦
          let k : (j : ℕ) × ((j < length ms)
          × (list_all (λ (row : Entry). not (satisfies_at ms j row.1.0)) rows ≡ true)) =
          number_of ms rows e in (suc k.0, (omega (arith, k.1.0), k.1.1))
    ]

of_number : (ms : List MatcherView) (rows : Part) (j : ℕ) → j < length ms
    → list_all (λ (row : Entry). not (satisfies_at ms j row.1.0)) rows ≡ true
    → list_any (λ matcher. rejects_each matcher rows) ms ≡ true
of_number [] rows j l h = absurd (omega (arith, l))
of_number (m ∷ ms) rows zero l h =
    or_left (rejects_each m rows) (list_any (λ matcher. rejects_each matcher rows) ms) h
of_number (m ∷ ms) rows (suc j) l h =
    or_right (rejects_each m rows) (list_any (λ matcher. rejects_each matcher rows) ms)
    (of_number ms rows j (omega (arith, l)) h)

one_of_one : (x r s : ℕ) (run : List ℕ) → run ≡ x ∷ [] → Contains run r → Contains run s → r ≡ s
one_of_one x r s run e hr hs =
    let cr : Contains (x ∷ []) r = subst (λ (rs : List ℕ). Contains rs r) e hr in
    let cs : Contains (x ∷ []) s = subst (λ (rs : List ℕ). Contains rs s) e hs in
    elim (Contains-cases x [] r cr) [
      | inl er ↦ elim (Contains-cases x [] s cs) [
        | inl es ↦ sym er ∙ es
        | inr d ↦ absurd (none_in_nil s d)
      ]
      | inr d ↦ absurd (none_in_nil r d)
    ]

module _ (part : Part) (q : QueryView) (rises : IsStrictlyIncreasing (references part)) where
  -- the series from one reference to another
  span_rows : (r s : ℕ) → rows_below (s + 1) (rows_from r part)
      ≡ filter (λ (row : Entry). nat_le r row.0 && nat_le row.0 s) part
  span_rows r s =
      filter-filter (λ (row : Entry). nat_lt row.0 (s + 1)) (λ (row : Entry). nat_le r row.0) part
      ∙ filter-same (λ (row : Entry). nat_lt row.0 (s + 1) && nat_le r row.0)
      (λ (row : Entry). nat_le r row.0 && nat_le row.0 s) part (λ row c. grind (arith, nat_tests))

  span_references : (r s : ℕ)
      → references (rows_below (s + 1) (rows_from r part)) ≡ references_between (asked part q) r s
  span_references r s =
      ap references (span_rows r s) ∙ references-filter (λ x. nat_le r x && nat_le x s) part

  span_of : (r s : ℕ) → AreOf part (rows_below (s + 1) (rows_from r part))
  span_of r s row c =
      (filter-from (λ (row : Entry). nat_le r row.0 && nat_le row.0 s) part row
      (subst (λ (xs : Part). Contains xs row) (span_rows r s) c)).0

  -- the run from one reference to another, under a verdict
  run_between : (r s : ℕ) (v : Verdict) → Contains (references part) r
      → Contains (references part) s → r < s
      → FitsUnder (asked part q) v (references_between (asked part q) r s) → ShareARun (asked part q) r s
  run_between r s v cr cs lt fit = record {
    run = references_between (asked part q) r s;
    fitting = record {
      is_run = record {
        low = r;
        high = s;
        has_low = cr;
        has_high = cs;
        ordered = omega arith;
        is = refl;
      };
      verdict = v;
      fits = fit;
    };
    has_first = in_between (asked part q) r s r cr (omega arith) (omega arith);
    has_second = in_between (asked part q) r s s cs (omega arith) (omega arith);
  }

  pub shared_run : (r s : ℕ) → Contains (references part) r → Contains (references part) s → r < s
      → share_verdict q (rows_below (s + 1) (rows_from r part)) ≡ true
      → ShareARun (asked part q) r s
  shared_run r s cr cs lt h =
      let span : Part = rows_below (s + 1) (rows_from r part) in
      elim (or_cases (list_any (λ matcher. rejects_each matcher span) q.matchers)
      (are_silent q span) h) [
        | inl e ↦
            let k : (j : ℕ) × ((j < length q.matchers) × (are_rejected q j span ≡ true)) =
            number_of q.matchers span e in
            run_between r s (Rejected k.0) cr cs lt (
              k.1.0,
              λ x c. rejected_fits part q rises k.0 span (span_of r s) k.1.1 x
                  (subst (λ (xs : List ℕ). Contains xs x) (sym (span_references r s)) c),
            )
        | inr e ↦
            run_between r s NoSample cr cs lt (λ x c. silent_fits part q rises span (span_of r s) e
            x (subst (λ (xs : List ℕ). Contains xs x) (sym (span_references r s)) c))
      ]

  -- what lies between two references of a run lies in it
  within_run : (run : List ℕ) (r s x : ℕ) → IsRun (asked part q) run → Contains run r
      → Contains run s → Contains (references_between (asked part q) r s) x → Contains run x
  within_run run r s x is cr cs c =
      let br : Contains (references part) r × (is.low ≤ r) × (r ≤ is.high) =
      of_between (asked part q) is.low is.high r
      (subst (λ (xs : List ℕ). Contains xs r) is.is cr) in
      let bs : Contains (references part) s × (is.low ≤ s) × (s ≤ is.high) =
      of_between (asked part q) is.low is.high s
      (subst (λ (xs : List ℕ). Contains xs s) is.is cs) in
      let bx : Contains (references part) x × (r ≤ x) × (x ≤ s) =
      of_between (asked part q) r s x c in
      subst (λ (xs : List ℕ). Contains xs x) (sym is.is)
      (in_between (asked part q) is.low is.high x bx.0 (omega arith) (omega arith))

  share_of_fit : (r s : ℕ) (v : Verdict) (run : List ℕ) → r < s → IsRun (asked part q) run
      → FitsUnder (asked part q) v run → Contains run r → Contains run s
      → share_verdict q (rows_below (s + 1) (rows_from r part)) ≡ true
  share_of_fit r s Match run lt is fit cr cs =
      absurd (let same : r ≡ s = one_of_one fit.0 r s run fit.1 cr cs in omega arith)
  share_of_fit r s NoSample run lt is fit cr cs =
      let span : Part = rows_below (s + 1) (rows_from r part) in
      or_right (list_any (λ matcher. rejects_each matcher span) q.matchers) (are_silent q span)
      (fits_silent part q rises span (span_of r s) (λ x c. fit x (within_run run r s x is cr cs
      (subst (λ (xs : List ℕ). Contains xs x) (span_references r s) c))))
  share_of_fit r s (Rejected j) run lt is fit cr cs =
      let span : Part = rows_below (s + 1) (rows_from r part) in
      or_left (list_any (λ matcher. rejects_each matcher span) q.matchers) (are_silent q span)
      (of_number q.matchers span j fit.0
      (fits_rejected part q rises j span (span_of r s) (λ x c. fit.1 x (within_run run r s x is cr
      cs (subst (λ (xs : List ℕ). Contains xs x) (span_references r s) c)))))

  pub run_shared : (r s : ℕ) → r < s → ShareARun (asked part q) r s
      → share_verdict q (rows_below (s + 1) (rows_from r part)) ≡ true
  run_shared r s lt h =
      share_of_fit r s h.fitting.verdict h.run lt h.fitting.is_run h.fitting.fits
      h.has_first h.has_second

  -- the place of the first pair that shares a run, from the place of the first pair on
  pub some_shared : (r : ℕ) (ss : List ℕ) (at k : ℕ) → IsStrictlyIncreasing (r ∷ ss)
      → AreIn (references part) (r ∷ ss) → first_shared q at ss (rows_from r part) ≡ Some k
      → (m : ℕ) × ((k ≡ at + m) × IsFirstShared (asked part q) (r ∷ ss) m)
  some_shared r [] at k up has h = cc
  some_shared r (s ∷ ss) at k up has h =
      let lt : r < s = rising-head r (s ∷ ss) up s (here s ss) in
      let later : Part = rows_from s (rows_from r part) in
      let span : Part = rows_below (s + 1) (rows_from r part) in
      elim (either (share_verdict q span)) [
        | inl e ↦
            let f : Some at ≡ Some k =
            sym (ap (λ b. cond b (Some at) (first_shared q (at + 1) ss later)) e) ∙ h in
            let g : at ≡ k = cc in (
              0,
              (
                omega arith,
                record {
                  shared = shared_run r s (has r (here r (s ∷ ss)))
                      (has s (there r s (s ∷ ss) (here s ss))) lt e;
                  least = λ j l. absurd (omega (arith, l));
                },
              ),
            )
        | inr e ↦
            let f : first_shared q (at + 1) ss later ≡ Some k =
            sym (ap (λ b. cond b (Some at) (first_shared q (at + 1) ss later)) e) ∙ h in
            let g : first_shared q (at + 1) ss (rows_from s part) ≡ Some k =
            ap (first_shared q (at + 1) ss) (sym (from_twice r s part (omega arith))) ∙ f in
            let ih : (m : ℕ) × ((k ≡ at + 1 + m) × IsFirstShared (asked part q) (s ∷ ss) m) =
            some_shared s ss (at + 1) k (rising-tail r (s ∷ ss) up)
            (λ t c. has t (there r t (s ∷ ss) c)) g in (
              suc ih.0,
              (
                omega (arith, ih.1.0),
                record {
                  shared = ih.1.1.shared;
                  least = least_later ih.0 ih.1.1.least (λ share.
                      absurd (let t : share_verdict q span ≡ true = run_shared r s lt share in cc));
                },
              ),
            )
      ]
    where
      least_later : (m : ℕ) → ((j : ℕ) → j < m → ShareAt (asked part q) (s ∷ ss) j → ⊥)
          → (ShareARun (asked part q) r s → ⊥) → (j : ℕ) → j < suc m
          → ShareAt (asked part q) (r ∷ s ∷ ss) j → ⊥
      least_later m rest first zero l h = first h
      least_later m rest first (suc j) l h = rest j (omega (arith, l)) h

  pub none_shared : (r : ℕ) (ss : List ℕ) (at : ℕ) → IsStrictlyIncreasing (r ∷ ss)
      → AreIn (references part) (r ∷ ss) → first_shared q at ss (rows_from r part) ≡ None
      → (j : ℕ) → ShareAt (asked part q) (r ∷ ss) j → ⊥
  none_shared r [] at up has h j share = share
  none_shared r (s ∷ ss) at up has h j share =
      let lt : r < s = rising-head r (s ∷ ss) up s (here s ss) in
      let later : Part = rows_from s (rows_from r part) in
      let span : Part = rows_below (s + 1) (rows_from r part) in
      elim (either (share_verdict q span)) [
        | inl e ↦
            let f : Some at ≡ None =
            sym (ap (λ b. cond b (Some at) (first_shared q (at + 1) ss later)) e) ∙ h in cc
        | inr e ↦
            let f : first_shared q (at + 1) ss later ≡ None =
            sym (ap (λ b. cond b (Some at) (first_shared q (at + 1) ss later)) e) ∙ h in
            let g : first_shared q (at + 1) ss (rows_from s part) ≡ None =
            ap (first_shared q (at + 1) ss) (sym (from_twice r s part (omega arith))) ∙ f in
            at_each (λ share.
            absurd (let t : share_verdict q span ≡ true = run_shared r s lt share in cc))
            (none_shared s ss (at + 1) (rising-tail r (s ∷ ss) up)
            (λ t c. has t (there r t (s ∷ ss) c)) g) j share
      ]
    where
      at_each : (ShareARun (asked part q) r s → ⊥)
          → ((j : ℕ) → ShareAt (asked part q) (s ∷ ss) j → ⊥) → (j : ℕ)
          → ShareAt (asked part q) (r ∷ s ∷ ss) j → ⊥
      at_each first rest zero h = first h
      at_each first rest (suc j) h = rest j h

  -- where no neighbours share a run, no two separators do
  apart_of : (seps : List ℕ) → IsStrictlyIncreasing seps → AreIn (references part) seps
      → ((j : ℕ) → ShareAt (asked part q) seps j → ⊥)
      → (r s : ℕ) → Contains seps r → Contains seps s → r < s → (run : List ℕ)
      → IsFittingRun (asked part q) run → Contains run r → Contains run s → ⊥
  apart_of [] up has none r s cr cs lt run fit hr hs = none_in_nil r cr
  apart_of (x ∷ []) up has none r s cr cs lt run fit hr hs =
      let same : r ≡ s = one_of_one x r s (x ∷ []) refl cr cs in absurd (omega arith)
  apart_of (x ∷ y ∷ ys) up has none r s cr cs lt run fit hr hs =
      let above : (t : ℕ) → Contains (y ∷ ys) t → y ≤ t = λ t c. elim (Contains-cases y ys t c) [
        | inl e ↦ omega arith
        | inr d ↦ let l : y < t = rising-head y ys (rising-tail x (y ∷ ys) up) t d in omega arith
      ] in
      let below : (t : ℕ) → Contains (x ∷ y ∷ ys) t
      → x ≤ t = λ t c. elim (Contains-cases x (y ∷ ys) t c) [
        | inl e ↦ omega arith
        | inr d ↦ let l : x < t = rising-head x (y ∷ ys) up t d in omega arith
      ] in
      elim (Contains-cases x (y ∷ ys) s cs) [
        | inl e ↦ absurd (let l : x ≤ r = below r cr in omega arith)
        | inr ds ↦ elim (Contains-cases x (y ∷ ys) r cr) [
          | inl e ↦
              let cy : Contains (x ∷ y ∷ ys) y = there x y (y ∷ ys) (here y ys) in
              let low : x < y = rising-head x (y ∷ ys) up y (here y ys) in
              let high : y ≤ s = above s ds in
              let inside : Contains run y =
              within_run run r s y fit.is_run hr hs
              (in_between (asked part q) r s y (has y cy) (omega arith) high) in
              none 0 (record {
                run = run;
                fitting = fit;
                has_first = subst (λ (t : ℕ). Contains run t) (sym e) hr;
                has_second = inside;
              })
          | inr dr ↦
              apart_of (y ∷ ys) (rising-tail x (y ∷ ys) up) (λ t c. has t (there x t (y ∷ ys) c))
              (λ j share. none (suc j) share) r s dr ds lt run fit hr hs
        ]
      ]

  pub separators_of : (seps : List ℕ) → IsStrictlyIncreasing seps → AreIn (references part) seps
      → ((j : ℕ) → ShareAt (asked part q) seps j → ⊥) → AreSeparators (asked part q) seps
  separators_of seps up has none =
      record { ascending = up; of_part = has; apart = apart_of seps up has none }

-- one separator more is picked
pub picked_step : (ss : List ℕ) (i s : ℕ) (rest others later : Part) (first : Entry) (whole : Bool)
    → i < length ss → s ≡ get_or ss i s → others ≡ rows_from s rest
    → others ≡ first ∷ later → first.0 ≡ s
    → are_picked (drop i ss) rest ≡ whole → are_picked (drop (i + 1) ss) later ≡ whole
picked_step ss i s rest others later first whole l read cut is same so_far =
    let e : rows_from s rest ≡ first ∷ later = sym cut ∙ is in
    let test : (first.0 == s) ≡ true = grind (arith, nat_tests) in
    let here_it : (begin_with s (rows_from s rest)
    && are_picked (drop (i + 1) ss) (after_first (rows_from s rest))) ≡ whole =
    sym (ap (λ (xs : List ℕ). are_picked xs rest) (from_read ss i s l read)) ∙ so_far in
    let split : ((first.0 == s) && are_picked (drop (i + 1) ss) later) ≡ whole =
    sym
    (ap (λ (rows : Part). begin_with s rows && are_picked (drop (i + 1) ss) (after_first rows)) e)
    ∙ here_it in
    sym (ap (λ (b : Bool). b && are_picked (drop (i + 1) ss) later) test) ∙ split

pub shared_here : (q : QueryView) (at : ℕ) (ss : List ℕ) (s : ℕ) (rest : Part) (whole : Option ℕ)
    → at < length ss → s ≡ get_or ss at s → share_verdict q (rows_below (s + 1) rest) ≡ true
    → first_shared q at (drop at ss) rest ≡ whole → Some at ≡ whole
shared_here q at ss s rest whole l read share so_far =
    sym (ap (λ (xs : List ℕ). first_shared q at xs rest) (from_read ss at s l read)
    ∙ ap (λ b. cond b (Some at) (first_shared q (at + 1) (drop (at + 1) ss) (rows_from s rest)))
    share)
    ∙ so_far

pub shared_later : (q : QueryView) (at : ℕ) (ss : List ℕ) (s : ℕ) (rest : Part) (whole : Option ℕ)
    → at < length ss → s ≡ get_or ss at s → share_verdict q (rows_below (s + 1) rest) ≡ false
    → first_shared q at (drop at ss) rest ≡ whole
    → first_shared q (at + 1) (drop (at + 1) ss) (rows_from s rest) ≡ whole
shared_later q at ss s rest whole l read share so_far =
    sym (ap (λ (xs : List ℕ). first_shared q at xs rest) (from_read ss at s l read)
    ∙ ap (λ b. cond b (Some at) (first_shared q (at + 1) (drop (at + 1) ss) (rows_from s rest)))
    share)
    ∙ so_far

-- a matcher by its number
pub rejected_by : (ms : List MatcherView) (j : ℕ) (m : MatcherView) (rows : Part) → j < length ms
    → m ≡ get_or ms j m
    → rejects_each m rows ≡ list_all (λ (row : Entry). not (satisfies_at ms j row.1.0)) rows
rejected_by [] j m rows l read = absurd (omega (arith, l))
rejected_by (x ∷ xs) zero m rows l read = ap (λ (y : MatcherView). rejects_each y rows) read
rejected_by (x ∷ xs) (suc j) m rows l read = rejected_by xs j m rows (omega (arith, l)) read
