-- What the tests of an audit say of an answer.
use Rattle.std.proofs.Common.{◌≡◌, ℕ, ◌+◌, ◌≤◌, true, false, List, [], ◌∷◌, length, None, Some, subst, arith}
use Rattle.std.specs.Prelude.{◌==◌, ◌&&◌}
use Rattle.std.specs.List.Sorted.{IsStrictlyIncreasing}
use Rattle.std.proofs.lemmas.Bool.Decides.{nat_tests}
use Rattle.labels.specs.Rows.{Row, AreRows}
use Rattle.labels.specs.Parts.{Part, references, IsPart}
use Rattle.matchers.specs.Views.{QueryView}
use Rattle.cover.specs.declared.certificate.Interval.{Interval}
use Rattle.cover.specs.declared.certificate.Verdict.{Verdict}
use Rattle.cover.specs.declared.certificate.Verdict.TheVariants.{Match, NoSample, Rejected}
use Rattle.cover.specs.declared.part_cover.PartAnswer.{PartAnswer}
use Rattle.cover.specs.Asking.{asked}
use Rattle.cover.specs.Certificates.{IsLeast, AreSeparators}
use Rattle.cover.proofs.Choices.{asked_part}
use Rattle.cover.proofs.Least.{separators_bound}
use Rattle.reply_reader.proofs.Booleans.{and_left, and_right, and_both}
use Rattle.auditor.specs.Auditing.{all_known, IsCut, AllFit, AreCounted, IsFirstShared, IsPartitioned, selected_content, IsSoundAnswer, IsFlaw, misfit_flaw}
use Rattle.auditor.specs.Looking.{cuts, first_misfit, are_picked, shared_at}
use Rattle.auditor.proofs.Cutting.{Chain, cuts_chain, chain_cuts, chain_cut, cut_chain}
use Rattle.auditor.proofs.Fitting.{IsTail, tail_whole, none_misfits, some_misfit}
use Rattle.auditor.proofs.Separating.{AreIn, picked_are, are_picked-of, some_shared, none_shared, separators_of}

-- a sound answer has a least certificate
pub sound_least : (part : Part) (q : QueryView) (answer : PartAnswer) → IsPart part
    → IsSoundAnswer part q answer → IsLeast (asked part q) answer.cover.certificate.items
sound_least part q answer is sound other valid =
    let bound : length answer.cover.separators.items ≤ length other =
    separators_bound (asked part q) answer.cover.separators.items other (asked_part part q is)
    sound.separated valid in
    omega (arith, sound.as_many)

module _ (part : Part) (q : QueryView) (is : IsPart part) where
  chain_of : (c : List Interval) → cuts c part ≡ true → Chain c (references part)
  chain_of c h = cuts_chain c part is.ascending is.in_range h

  pub not_cut : (c : List Interval) → cuts c part ≡ false → IsCut (asked part q) c → ⊥
  not_cut c h cut =
      absurd (let t : cuts c part ≡ true = chain_cuts c part is.ascending is.in_range
      (cut_chain (asked part q) c (asked_part part q is) cut) in cc)

  pub cut_of : (c : List Interval) → cuts c part ≡ true → IsCut (asked part q) c
  cut_of c h = chain_cut (asked part q) c (asked_part part q is) (chain_of c h)

  pub partitioned : (c : List Interval) → all_known (length q.matchers) c ≡ true
      → cuts c part ≡ true → IsPartitioned part q c
  partitioned c known h = record { known = known; cut = cut_of c h }

  tail_of : (c : List Interval) → cuts c part ≡ true → IsTail part c part
  tail_of c h =
      let chain : Chain c (references part) = chain_of c h in
      tail_whole part c is.ascending chain.chained (λ i m. (chain.members i m).1) chain.first

  pub all_fit : (c : List Interval) → all_known (length q.matchers) c ≡ true → cuts c part ≡ true
      → first_misfit q c part ≡ None → AllFit (asked part q) c
  all_fit c known h none = none_misfits part q is.ascending c part (tail_of c h) known none

  pub misfit_is : (answer : PartAnswer) (v : Verdict)
      → all_known (length q.matchers) answer.cover.certificate.items ≡ true
      → cuts answer.cover.certificate.items part ≡ true
      → first_misfit q answer.cover.certificate.items part ≡ Some v
      → IsFlaw part q answer (misfit_flaw v)
  misfit_is answer Match known h some = (
    partitioned answer.cover.certificate.items known h,
    some_misfit part q is.ascending answer.cover.certificate.items part Match
        (tail_of answer.cover.certificate.items h) known some,
  )
  misfit_is answer NoSample known h some = (
    partitioned answer.cover.certificate.items known h,
    some_misfit part q is.ascending answer.cover.certificate.items part NoSample
        (tail_of answer.cover.certificate.items h) known some,
  )
  misfit_is answer (Rejected j) known h some = (
    partitioned answer.cover.certificate.items known h,
    some_misfit part q is.ascending answer.cover.certificate.items part (Rejected j)
        (tail_of answer.cover.certificate.items h) known some,
  )

  pub counted_of : (s : List ℕ) (c : List Interval)
      → ((length s == length c) && are_picked s part) ≡ true → AreCounted (asked part q) s c
  counted_of s c h =
      let count : (length s == length c) ≡ true =
      and_left (length s == length c) (are_picked s part) h in
      let picked : IsStrictlyIncreasing s × AreIn (references part) s =
      picked_are s part is.ascending (and_right (length s == length c) (are_picked s part) h) in
      record { ascending = picked.0; of_part = picked.1; as_many = grind (arith, nat_tests) }

  pub not_counted : (s : List ℕ) (c : List Interval)
      → ((length s == length c) && are_picked s part) ≡ false → AreCounted (asked part q) s c → ⊥
  not_counted s c h counted = absurd (
      let same : length s ≡ length c = counted.as_many in
      let count : (length s == length c) ≡ true = grind (arith, nat_tests) in
      let t : ((length s == length c) && are_picked s part) ≡ true =
      and_both (length s == length c) (are_picked s part) count
      (are_picked-of s part is.ascending counted.ascending counted.of_part) in
      cc)

  pub shared_is : (s : List ℕ) (c : List Interval) (at : ℕ) → AreCounted (asked part q) s c
      → shared_at q s part ≡ Some at → IsFirstShared (asked part q) s at
  shared_is [] c at counted h = cc
  shared_is (r ∷ ss) c at counted h =
      let found : (m : ℕ) × ((at ≡ 0 + m) × IsFirstShared (asked part q) (r ∷ ss) m) =
      some_shared part q is.ascending r ss 0 at counted.ascending counted.of_part h in
      subst (IsFirstShared (asked part q) (r ∷ ss))
      (let e : found.0 ≡ at = omega (arith, found.1.0) in e) found.1.1

  pub separated_of : (s : List ℕ) (c : List Interval) → AreCounted (asked part q) s c
      → shared_at q s part ≡ None → AreSeparators (asked part q) s
  separated_of [] c counted h =
      separators_of part q is.ascending [] counted.ascending counted.of_part (λ j share. share)
  separated_of (r ∷ ss) c counted h =
      separators_of part q is.ascending (r ∷ ss) counted.ascending counted.of_part
      (none_shared part q is.ascending r ss 0 counted.ascending counted.of_part h)

  pub sound_of : (answer : PartAnswer) (rows : List Row)
      → all_known (length q.matchers) answer.cover.certificate.items ≡ true
      → cuts answer.cover.certificate.items part ≡ true
      → first_misfit q answer.cover.certificate.items part ≡ None
      → ((length answer.cover.separators.items == length answer.cover.certificate.items)
      && are_picked answer.cover.separators.items part) ≡ true
      → shared_at q answer.cover.separators.items part ≡ None
      → AreRows rows (selected_content part q) → rows ≡ answer.rows.items → IsSoundAnswer part q answer
  sound_of answer rows known h none count apart are same =
      let cut : IsCut (asked part q) answer.cover.certificate.items =
      cut_of answer.cover.certificate.items h in
      let counted : AreCounted (asked part q) answer.cover.separators.items
      answer.cover.certificate.items =
      counted_of answer.cover.separators.items answer.cover.certificate.items count in
      record {
        known = known;
        valid = record {
          partition = cut.partition;
          begins = cut.begins;
          chained = cut.chained;
          fits = all_fit answer.cover.certificate.items known h none;
        };
        separated =
            separated_of answer.cover.separators.items answer.cover.certificate.items counted apart;
        as_many = counted.as_many;
        rows = subst (λ (xs : List Row). AreRows xs (selected_content part q)) same are;
      }
