-- Intervals that cut the references of a part are a partition of it.
use Rattle.std.proofs.Common.{◌≡◌, ℕ, ◌<◌, ◌≤◌, true, false, inl, inr, List, [], ◌∷◌, ◌++◌, map, refl, sym, ◌∙◌, ap, subst, arith}
use Rattle.std.specs.Prelude.{nat_le, nat_lt, ◌&&◌, ◌==◌, Some}
use Rattle.std.specs.List.{filter, flat_map, Contains}
use Rattle.std.specs.List.Sorted.{IsStrictlyIncreasing}
use Rattle.std.proofs.lemmas.Bool.Decides.{nat_tests}
use Rattle.labels.specs.Parts.{Part, references}
use Rattle.labels.specs.Ascending.{first_of, first_or_end, not_below}
use Rattle.labels.proofs.Lists.{here, there, Contains-cases, none_in_nil, rising-tail, rising-head, filter-none, filter-all, filter-same, filter-from, filter-has, below_or_not, first-least, first-in, not_below-here}
use Rattle.cover.specs.declared.certificate.Interval.{Interval}
use Rattle.cover.specs.Certificates.{Asked, IsAsked, IsRun, run_of, next_from, IsChained}
use Rattle.cover.proofs.Runs.{in_run, of_run, AllForward, begins_not_below, in_some, of_map, interval_run}
use Rattle.reply_reader.proofs.Booleans.{and_left, and_right, and_both}
use Rattle.auditor.specs.Auditing.{IsCut}
use Rattle.auditor.specs.Looking.{rows_from, first_reference, cuts}
use Rattle.auditor.proofs.Splitting.{references-filter, rises_from}

-- chained intervals that begin with references and are not empty, the first with the first of all
pub record Chain (c : List Interval) (refs : List ℕ) : Type 0 where
  pub chained : IsChained c
  pub members : (i : Interval) → Contains c i → Contains refs i.from × (i.from < i.until)
  pub first : next_from c ≡ first_or_end refs

abbrev pub AreSmall : List ℕ → Type 0
AreSmall refs = (r : ℕ) → Contains refs r → r < 4294967296

first_within : (refs : List ℕ) → AreSmall refs → first_or_end refs ≤ 4294967296
first_within [] small = omega arith
first_within (r ∷ rs) small = let l : r < 4294967296 = small r (here r rs) in omega arith

small_from : (u : ℕ) (refs : List ℕ) → AreSmall refs → AreSmall (not_below u refs)
small_from u refs small r c = small r (filter-from (λ r. nat_le u r) refs r c).0

first_same : (x : ℕ) (refs : List ℕ) → first_of refs ≡ Some x → first_or_end refs ≡ x
first_same x [] e = cc
first_same x (r ∷ rs) e = cc

pub cuts_chain : (c : List Interval) (rows : Part) → IsStrictlyIncreasing (references rows)
    → AreSmall (references rows) → cuts c rows ≡ true → Chain c (references rows)
cuts_chain [] rows rises small e = record {
  chained = tt;
  members = λ i m. absurd (none_in_nil i m);
  first = let f : first_or_end (references rows) ≡ 4294967296 = grind (arith, nat_tests) in sym f;
}
cuts_chain (i ∷ is) rows rises small e =
    let rest : Part = rows_from i.until rows in
    let e123 : ((i.from == first_reference rows) && nat_lt i.from i.until && (i.until == first_reference rest))
    ≡ true = and_left _ (cuts is rest) e in
    let e12 : ((i.from == first_reference rows) && nat_lt i.from i.until) ≡ true =
    and_left _ (i.until == first_reference rest) e123 in
    let e1 : (i.from == first_reference rows) ≡ true = and_left _ (nat_lt i.from i.until) e12 in
    let e2 : nat_lt i.from i.until ≡ true = and_right (i.from == first_reference rows) _ e12 in
    let e3 : (i.until == first_reference rest) ≡ true =
    and_right ((i.from == first_reference rows) && nat_lt i.from i.until) _ e123 in
    let from_is : i.from ≡ first_or_end (references rows) = grind (arith, nat_tests) in
    let forward : i.from < i.until = grind (arith, nat_tests) in
    let until_is : i.until ≡ first_or_end (references rest) = grind (arith, nat_tests) in
    let same : references rest ≡ not_below i.until (references rows) =
    references-filter (λ r. nat_le i.until r) rows in
    let small' : AreSmall (references rest) =
    subst AreSmall (sym same) (small_from i.until (references rows) small) in
    let ih : Chain is (references rest) =
    cuts_chain is rest (rises_from i.until rows rises) small' (and_right ((i.from == first_reference rows)
    && nat_lt i.from i.until && (i.until == first_reference rest)) (cuts is rest) e) in
    let top : first_or_end (references rest) ≤ 4294967296 = first_within (references rest) small' in
    let begins : Contains (references rows) i.from =
    subst (λ (r : ℕ). Contains (references rows) r) (sym from_is)
    (first-in (references rows) (omega arith)) in
    record {
      chained = (until_is ∙ sym ih.first, ih.chained);
      members = λ k m. elim (Contains-cases i is k m) [
        | inl e ↦
            subst (λ (k : Interval). Contains (references rows) k.from
            × (k.from < k.until)) e (begins, forward)
        | inr d ↦
            let in_rest : Contains (not_below i.until (references rows)) k.from =
            subst (λ (rs : List ℕ). Contains rs k.from) same (ih.members k d).0 in (
              (filter-from (λ r. nat_le i.until r) (references rows) k.from in_rest).0,
              (ih.members k d).1,
            )
      ];
      first = from_is;
    }

-- the end of an interval is the first reference that is left
until_first : (i : Interval) (is : List Interval) (refs : List ℕ) → IsStrictlyIncreasing refs
    → AreSmall refs → i.until ≡ next_from is
    → ((k : Interval) → Contains is k → Contains refs k.from)
    → i.until ≡ first_or_end (not_below i.until refs)
until_first i [] refs rises small e has =
    let none : not_below i.until refs ≡ [] =
    filter-none (λ r. nat_le i.until r) refs
    (λ r c. let l : r < 4294967296 = small r c in grind (arith, nat_tests)) in
    e ∙ sym (ap first_or_end none)
until_first i (k ∷ ks) refs rises small e has =
    let c : Contains refs i.until =
    subst (λ (r : ℕ). Contains refs r) (sym e) (has k (here k ks)) in
    sym (first_same i.until (not_below i.until refs) (not_below-here refs i.until rises c))

pub chain_cuts : (c : List Interval) (rows : Part) → IsStrictlyIncreasing (references rows)
    → AreSmall (references rows) → Chain c (references rows) → cuts c rows ≡ true
chain_cuts [] rows rises small ch =
    let e : 4294967296 ≡ first_or_end (references rows) = ch.first in grind (arith, nat_tests)
chain_cuts (i ∷ is) rows rises small ch =
    let rest : Part = rows_from i.until rows in
    let same : references rest ≡ not_below i.until (references rows) =
    references-filter (λ r. nat_le i.until r) rows in
    let small' : AreSmall (references rest) =
    subst AreSmall (sym same) (small_from i.until (references rows) small) in
    let forward : i.from < i.until = (ch.members i (here i is)).1 in
    let next : i.until ≡ next_from is = ch.chained.0 in
    let until_is : i.until ≡ first_or_end (references rest) =
    until_first i is (references rows) rises small next (λ k m. (ch.members k (there i k is m)).0)
    ∙ ap first_or_end (sym same) in
    let ahead : AllForward is = λ k m. (ch.members k (there i k is m)).1 in
    let from_is : i.from ≡ first_reference rows = ch.first in
    let e1 : (i.from == first_reference rows) ≡ true = grind (arith, nat_tests) in
    let e2 : nat_lt i.from i.until ≡ true = grind (arith, nat_tests) in
    let e3 : (i.until == first_reference rest) ≡ true = grind (arith, nat_tests) in
    let ih : cuts is rest
    ≡ true = chain_cuts is rest (rises_from i.until rows rises) small' (record {
      chained = ch.chained.1;
      members = λ k m.
          let low : next_from is ≤ k.from = begins_not_below is ch.chained.1 ahead k m in
          let c : Contains (not_below i.until (references rows)) k.from =
          filter-has (λ r. nat_le i.until r) (references rows) k.from
          (ch.members k (there i k is m)).0 (grind (arith, nat_tests)) in
          (subst (λ (rs : List ℕ). Contains rs k.from) (sym same) c, ahead k m);
      first = sym next ∙ until_is;
    }) in
    and_both _ _ (and_both _ _ (and_both _ _ e1 e2) e3) ih

-- an ascending list from a bound on is what is below a greater one, and then what is not
split_from : (low high : ℕ) (xs : List ℕ) → IsStrictlyIncreasing xs → low ≤ high
    → filter (λ r. nat_le low r && nat_lt r high) xs ++ filter (λ r. nat_le high r) xs
    ≡ filter (λ r. nat_le low r) xs
split_from low high [] rises l = refl
split_from low high (x ∷ xs) rises l =
    let ih : filter (λ r. nat_le low r && nat_lt r high) xs ++ filter (λ r. nat_le high r) xs
    ≡ filter (λ r. nat_le low r) xs = split_from low high xs (rising-tail x xs rises) l in
    elim (below_or_not x high) [
      | inl lt ↦
          let e2 : nat_le high x ≡ false = grind (arith, nat_tests) in
          elim (below_or_not x low) [
            | inl under ↦
                let e1 : (nat_le low x && nat_lt x high) ≡ false = grind (arith, nat_tests) in
                let e3 : nat_le low x ≡ false = grind (arith, nat_tests) in
                rw (e1, e2, e3, ih)
            | inr over ↦
                let e1 : (nat_le low x && nat_lt x high) ≡ true = grind (arith, nat_tests) in
                let e3 : nat_le low x ≡ true = grind (arith, nat_tests) in
                rw (e1, e2, e3, ih)
          ]
      | inr past ↦
          let up : (r : ℕ) → Contains (x ∷ xs) r
          → high ≤ r = λ r d. elim (Contains-cases x xs r d) [
            | inl e ↦ omega arith
            | inr d ↦ let lt : x < r = rising-head x xs rises r d in omega arith
          ] in
          let none : filter (λ r. nat_le low r && nat_lt r high) (x ∷ xs) ≡ [] =
          filter-none (λ r. nat_le low r && nat_lt r high) (x ∷ xs)
          (λ r d. let u : high ≤ r = up r d in grind (arith, nat_tests)) in
          let same : filter (λ r. nat_le high r) (x ∷ xs) ≡ filter (λ r. nat_le low r) (x ∷ xs) =
          filter-same (λ r. nat_le high r) (λ r. nat_le low r) (x ∷ xs)
          (λ r d. let u : high ≤ r = up r d in grind (arith, nat_tests)) in
          ap (λ ys. ys ++ filter (λ r. nat_le high r) (x ∷ xs)) none ∙ same
    ]

runs_whole : (a : Asked) (c : List Interval) → IsAsked a → IsChained c → AllForward c
    → flat_map (λ (run : List ℕ). run) (map (run_of a) c)
    ≡ filter (λ r. nat_le (next_from c) r) a.references
runs_whole a [] part ch ahead =
    sym (filter-none (λ r. nat_le 4294967296 r) a.references (λ r c.
    let l : r < 4294967296 = part.in_range r c in grind (arith, nat_tests)))
runs_whole a (i ∷ is) part ch ahead =
    let forward : i.from < i.until = ahead i (here i is) in
    let ih : flat_map (λ (run : List ℕ). run) (map (run_of a) is)
    ≡ filter (λ r. nat_le (next_from is) r) a.references =
    runs_whole a is part ch.1 (λ k m. ahead k (there i k is m)) in
    ap (λ rs. run_of a i ++ rs) (ih
    ∙ ap (λ (n : ℕ). filter (λ r. nat_le n r) a.references) (sym ch.0))
    ∙ split_from i.from i.until a.references part.ascending (omega arith)

pub chain_cut : (a : Asked) (c : List Interval) → IsAsked a → Chain c a.references → IsCut a c
chain_cut a c part ch = record {
  partition = record {
    each = λ run m.
        let k : (i : Interval) × (Contains c i × (run_of a i ≡ run)) = of_map (run_of a) c run m in
        subst (IsRun a) k.1.1
        (interval_run a k.0 part (ch.members k.0 k.1.0).0 (ch.members k.0 k.1.0).1);
    whole = runs_whole a c part ch.chained (λ k m. (ch.members k m).1)
        ∙ filter-all (λ r. nat_le (next_from c) r) a.references (λ r d.
        let l : first_or_end a.references ≤ r = first-least a.references r part.ascending d in
        let e : next_from c ≡ first_or_end a.references = ch.first in
        grind (arith, nat_tests));
  };
  begins =
      λ i m. let k : Contains a.references i.from × (i.from < i.until) = ch.members i m in
      in_run a i i.from k.0 (omega arith) k.1;
  chained = ch.chained;
}

pub cut_chain : (a : Asked) (c : List Interval) → IsAsked a → IsCut a c → Chain c a.references
cut_chain a c part cut =
    record { chained = cut.chained; members = members; first = first_is c cut.chained ahead refl }
  where
    members : (i : Interval) → Contains c i → Contains a.references i.from × (i.from < i.until)
    members i m =
        let k : Contains a.references i.from × (i.from ≤ i.from) × (i.from < i.until) =
        of_run a i i.from (cut.begins i m) in (k.0, k.2)

    ahead : AllForward c
    ahead = λ i m. (members i m).1

    first_is : (d : List Interval) → IsChained d → AllForward d → d ≡ c
        → next_from d ≡ first_or_end a.references
    first_is [] ch f e =
        ap first_or_end
        (ap (λ (x : List Interval). flat_map (λ (run : List ℕ). run) (map (run_of a) x)) e
        ∙ cut.partition.whole)
    first_is (i ∷ is) ch f e =
        let inside : Contains a.references i.from =
        (members i (subst (λ (x : List Interval). Contains x i) e (here i is))).0 in
        let up : first_or_end a.references ≤ i.from =
        first-least a.references i.from part.ascending inside in
        let top : i.from < 4294967296 = part.in_range i.from inside in
        let first : Contains a.references (first_or_end a.references) =
        first-in a.references (omega arith) in
        let of_runs : Contains (flat_map (λ (run : List ℕ). run) (map (run_of a) (i ∷ is)))
        (first_or_end a.references) =
        subst (λ (rs : List ℕ). Contains rs (first_or_end a.references))
        (sym (ap (λ (x : List Interval). flat_map (λ (run : List ℕ). run) (map (run_of a) x)) e
        ∙ cut.partition.whole)) first in
        let k : (k : Interval)
        × (Contains (i ∷ is) k × Contains (run_of a k) (first_or_end a.references)) =
        in_some a (i ∷ is) (first_or_end a.references) of_runs in
        let low : next_from (i ∷ is) ≤ k.0.from = begins_not_below (i ∷ is) ch f k.0 k.1.0 in
        let b : Contains a.references (first_or_end a.references)
        × (k.0.from ≤ first_or_end a.references) × (first_or_end a.references < k.0.until) =
        of_run a k.0 (first_or_end a.references) k.1.1 in
        omega arith
