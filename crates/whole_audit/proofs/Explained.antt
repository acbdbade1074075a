-- What the tests of an explained answer say together.
use Rattle.std.proofs.Common.{◌≡◌, ℕ, ◌<◌, ◌≤◌, Bool, true, false, ◌&&◌, List, [], ◌∷◌, Some, length, drop, refl, sym, ◌∙◌, ap, arith}
use Rattle.std.specs.Prelude.{nat_le, nat_lt, ◌==◌}
use Rattle.std.specs.List.{AllZip}
use Rattle.std.proofs.lemmas.Bool.Decides.{nat_tests}
use Rattle.std.proofs.lemmas.List.{drop_all}
use Rattle.labels.specs.Rows.{AreRows}
use Rattle.labels.specs.Parts.{Part}
use Rattle.matchers.specs.Views.{QueryView}
use Rattle.cover.specs.declared.certificate.Interval.{Interval}
use Rattle.cover.specs.declared.part_cover.PartAnswer.{PartAnswer}
use Rattle.cover.specs.Certificates.{IsChained, next_from}
use Rattle.reply_reader.proofs.Booleans.{and_left, and_right, and_both}
use Rattle.auditor.specs.Auditing.{all_known, selected_content}
use Rattle.whole_audit.specs.Explaining.{sampled, LiesIn, IsExplained}
use Rattle.whole_audit.specs.Taking.{are_taken_from, is_chained, lie_within, is_shaped}
use Rattle.whole_audit.proofs.Taken.{turn_of, of_turn}

within_nothing : (ns : List ℕ) → lie_within ns [] ≡ (length ns == 0)
within_nothing [] = refl
within_nothing (n ∷ ns) =
    let none : (length (n ∷ ns) == 0) ≡ false = grind (arith, nat_tests) in sym none

pub lie_end : (ns : List ℕ) (c : List Interval) (i : ℕ) (b whole : Bool) → length c ≤ i
    → b ≡ (length ns == 0) → lie_within ns (drop i c) ≡ whole → b ≡ whole
lie_end ns c i b whole l e h =
    e ∙ sym (within_nothing ns) ∙ sym (ap (lie_within ns) (drop_all i c l)) ∙ h

chained_of : (c : List Interval) → is_chained c ≡ true → IsChained c
chained_of [] h = tt
chained_of (i ∷ is) h =
    let e : (i.until == next_from is) ≡ true =
    and_left (i.until == next_from is) (is_chained is) h in (
      grind (arith, nat_tests),
      chained_of is (and_right (i.until == next_from is) (is_chained is) h),
    )

of_chained : (c : List Interval) → IsChained c → is_chained c ≡ true
of_chained [] h = refl
of_chained (i ∷ is) h =
    let e : i.until ≡ next_from is = h.0 in
    and_both (i.until == next_from is) (is_chained is) (grind (arith, nat_tests))
    (of_chained is h.1)

within_of : (ns : List ℕ) (c : List Interval) → lie_within ns c ≡ true → AllZip LiesIn ns c
within_of [] [] h = tt
within_of [] (i ∷ is) h = cc
within_of (n ∷ ns) [] h = cc
within_of (n ∷ ns) (i ∷ is) h =
    let both : (nat_le i.from n && nat_lt n i.until) ≡ true =
    and_left (nat_le i.from n && nat_lt n i.until) (lie_within ns is) h in
    let low : nat_le i.from n ≡ true = and_left (nat_le i.from n) (nat_lt n i.until) both in
    let high : nat_lt n i.until ≡ true = and_right (nat_le i.from n) (nat_lt n i.until) both in (
      (grind (arith, nat_tests), grind (arith, nat_tests)),
      within_of ns is (and_right (nat_le i.from n && nat_lt n i.until) (lie_within ns is) h),
    )

of_within : (ns : List ℕ) (c : List Interval) → AllZip LiesIn ns c → lie_within ns c ≡ true
of_within [] [] h = refl
of_within [] (i ∷ is) h = absurd h
of_within (n ∷ ns) [] h = absurd h
of_within (n ∷ ns) (i ∷ is) h =
    let low : i.from ≤ n = h.0.0 in
    let high : n < i.until = h.0.1 in
    let a : nat_le i.from n ≡ true = grind (arith, nat_tests) in
    let b : nat_lt n i.until ≡ true = grind (arith, nat_tests) in
    and_both (nat_le i.from n && nat_lt n i.until) (lie_within ns is)
    (and_both (nat_le i.from n) (nat_lt n i.until) a b) (of_within ns is h.1)

module _ (part : Part) (query : QueryView) (answer : PartAnswer) where
  pub shaped_of : IsExplained part query answer → is_shaped (length query.matchers)
      answer.cover.certificate.items answer.cover.separators.items ≡ true
  shaped_of e =
      let c : List Interval = answer.cover.certificate.items in
      let s : List ℕ = answer.cover.separators.items in
      and_both (all_known (length query.matchers) c && is_chained c) (lie_within s c)
      (and_both (all_known (length query.matchers) c) (is_chained c) e.known
      (of_chained c e.chained)) (of_within s c e.separated)

  pub taken_of : IsExplained part query answer
      → are_taken_from query (Some answer.cover.certificate.items) (sampled part) ≡ true
  taken_of e = of_turn query (sampled part) answer.cover.certificate.items e.known e.taken

  pub explained_of : is_shaped (length query.matchers) answer.cover.certificate.items
      answer.cover.separators.items ≡ true
      → are_taken_from query (Some answer.cover.certificate.items) (sampled part) ≡ true
      → AreRows answer.rows.items (selected_content part query) → IsExplained part query answer
  explained_of h t r =
      let c : List Interval = answer.cover.certificate.items in
      let s : List ℕ = answer.cover.separators.items in
      let front : (all_known (length query.matchers) c && is_chained c) ≡ true =
      and_left (all_known (length query.matchers) c && is_chained c) (lie_within s c) h in
      record {
        known = and_left (all_known (length query.matchers) c) (is_chained c) front;
        chained = chained_of c (and_right (all_known (length query.matchers) c) (is_chained c) front);
        separated = within_of s c
            (and_right (all_known (length query.matchers) c && is_chained c) (lie_within s c) h);
        taken = turn_of query (sampled part) c t;
        rows = r;
      }
