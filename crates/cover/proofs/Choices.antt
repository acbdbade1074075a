-- a part and its matchers, as the lists that are chosen for them
use Rattle.std.proofs.Common.{◌≡◌, ℕ, zero, suc, ◌<◌, Bool, true, false, ◌&&◌, inl, inr, List, [], ◌∷◌, length, map, get_or, refl, sym, ◌∙◌, ap, subst, arith}
use Rattle.std.specs.List.{filter, Contains}
use Rattle.std.specs.List.Sorted.{IsStrictlyIncreasing}
use Rattle.std.specs.Prelude.{nat_eq}
use Rattle.std.proofs.lemmas.Bool.Decides.{nat_tests}
use Rattle.labels.specs.Sets.{has}
use Rattle.labels.proofs.Lists.{here, there, Contains-cases, none_in_nil, filter-has, filter-from, rising-filter, rising-tail, rising-head}
use Rattle.labels.proofs.SetLemmas.{Contains-has, has-true, not_in-has, same_lists}
use Rattle.std.specs.Prelude.{ℤ}
use Rattle.matchers.specs.Views.{MatcherView, QueryView}
use Rattle.matchers.specs.Satisfies.{satisfies, satisfies_all}
use Rattle.labels.specs.Labels.{Labels}
use Rattle.labels.specs.Parts.{Part, references, references_of, references_where, live_references, has_sample, IsPart}
use Rattle.postings.proofs.Choosing.{Entry, where_rises, in_rows, to_rows, rows_rise, rows_unique}
use Rattle.cover.specs.declared.certificate.Interval.{Interval}
use Rattle.cover.specs.Certificates.{IsAsked, IsLeftmost, IsMatching, AreMatches}
use Rattle.cover.specs.Asking.{labels_at, samples_at, satisfies_at, asked, matching_references}
use Rattle.cover.specs.Walking.{accepted_by, alive, asked_by_lists, list_at, matcher_lists}
use Rattle.cover.proofs.Agreement.{asks, Agree, AgreeLive, leftmost_too}
use Rattle.cover.proofs.Farthest.{length_map}

-- a list of some references is what a filter by it keeps
kept_by : (xs refs : List ℕ) → IsStrictlyIncreasing xs → IsStrictlyIncreasing refs
    → ((r : ℕ) → Contains xs r → Contains refs r) → xs ≡ filter (λ (r : ℕ). has xs r) refs
kept_by xs refs hx hr sub =
    same_lists xs (filter (λ (r : ℕ). has xs r) refs) hx
    (rising-filter (λ (r : ℕ). has xs r) refs hr)
    (record {
      from_left = λ r c. filter-has (λ (r : ℕ). has xs r) refs r (sub r c) (Contains-has xs r c);
      from_right = λ r c. has-true xs r (filter-from (λ (r : ℕ). has xs r) refs r c).1;
    })

map-has' : (part : Part) (row : Entry) → Contains part row → Contains (references part) row.0
map-has' [] row h = absurd (none_in_nil row h)
map-has' (y ∷ ys) row h = elim (Contains-cases y ys row h) [
  | inl e ↦
      subst (λ (z : ℕ). Contains (references (y ∷ ys)) z) (ap (λ (x : Entry). x.0) e)
      (here y.0 (references ys))
  | inr d ↦ there y.0 row.0 (references ys) (map-has' ys row d)
]

of_references : (part : Part) (r : ℕ) → Contains (references part) r
    → (row : Entry) × (Contains part row × (row.0 ≡ r))
of_references [] r h = absurd (none_in_nil r h)
of_references (y ∷ ys) r h = elim (Contains-cases y.0 (references ys) r h) [
  | inl e ↦ (y, (here y ys, e))
  | inr d ↦
      let k : (row : Entry) × (Contains ys row × (row.0 ≡ r)) = of_references ys r d in
      (k.0, (there y k.0 ys k.1.0, k.1.1))
]

rows_sub : (t : Entry → Bool) (part : Part) (r : ℕ) → Contains (references_of t part) r
    → Contains (references part) r
rows_sub t part r c =
    let k : (row : Entry) × (Contains part row × (t row ≡ true) × (row.0 ≡ r)) =
    in_rows t part r c in
    subst (λ (z : ℕ). Contains (references part) z) k.1.2 (map-has' part k.0 k.1.0)

pub chosen_kept : (part : Part) (ms : List MatcherView) (j : ℕ) → IsPart part → j < length ms
    → list_at (matcher_lists part ms) j
    ≡ filter (λ (r : ℕ). has (list_at (matcher_lists part ms) j) r) (references part)
chosen_kept part [] j is l = absurd (omega (arith, l))
chosen_kept part (m ∷ ms) zero is l =
    kept_by (references_where (λ labels. satisfies m labels) part) (references part)
    (where_rises (λ labels. satisfies m labels) part is.ascending) is.ascending
    (rows_sub (λ row. satisfies m row.1.0) part)
chosen_kept part (m ∷ ms) (suc j) is l = chosen_kept part ms j is (omega (arith, l))

labels_of : (part : Part) (row : Entry) → IsStrictlyIncreasing (references part) → Contains part row
    → labels_at part row.0 ≡ row.1.0
labels_of [] row h c = absurd (none_in_nil row c)
labels_of (y ∷ ys) row h c = elim (Contains-cases y ys row c) [
  | inl e ↦
      let q : y.0 ≡ row.0 = ap (λ (x : Entry). x.0) e in
      let t : nat_eq y.0 row.0 ≡ true = grind (arith, nat_tests) in
      rw t (ap (λ (x : Entry). x.1.0) e)
  | inr d ↦
      let l : y.0 < row.0 = rising-head y.0 (references ys) h row.0 (map-has' ys row d) in
      let t : nat_eq y.0 row.0 ≡ false = grind (arith, nat_tests) in
      let ih : labels_at ys row.0 ≡ row.1.0 =
      labels_of ys row (rising-tail y.0 (references ys) h) d in
      rw t ih
]

samples_of : (part : Part) (row : Entry) → IsStrictlyIncreasing (references part)
    → Contains part row → samples_at part row.0 ≡ row.1.1
samples_of [] row h c = absurd (none_in_nil row c)
samples_of (y ∷ ys) row h c = elim (Contains-cases y ys row c) [
  | inl e ↦
      let q : y.0 ≡ row.0 = ap (λ (x : Entry). x.0) e in
      let t : nat_eq y.0 row.0 ≡ true = grind (arith, nat_tests) in
      rw t (ap (λ (x : Entry). x.1.1) e)
  | inr d ↦
      let l : y.0 < row.0 = rising-head y.0 (references ys) h row.0 (map-has' ys row d) in
      let t : nat_eq y.0 row.0 ≡ false = grind (arith, nat_tests) in
      let ih : samples_at ys row.0 ≡ row.1.1 =
      samples_of ys row (rising-tail y.0 (references ys) h) d in
      rw t ih
]

-- whether a row's reference stands among those of the rows that pass a test
rows_have : (t : Entry → Bool) (part : Part) (row : Entry)
    → IsStrictlyIncreasing (references part) → Contains part row
    → has (references_of t part) row.0 ≡ t row
rows_have t part row h c = go (t row) refl
  where
    go : (b : Bool) → t row ≡ b → has (references_of t part) row.0 ≡ t row
    go true q = Contains-has (references_of t part) row.0 (to_rows t part row c q) ∙ sym q
    go false q = not_in-has (references_of t part) row.0 (λ d.
        let k : (x : Entry) × (Contains part x × (t x ≡ true) × (x.0 ≡ row.0)) =
        in_rows t part row.0 d in
        let same : k.0 ≡ row = rows_unique part k.0 row h k.1.0 c k.1.2 in
        let u : t row ≡ true = ap t (sym same) ∙ k.1.1 in
        cc) ∙ sym q

where_has : (t : Labels → Bool) (part : Part) (r : ℕ) → IsStrictlyIncreasing (references part)
    → Contains (references part) r
    → has (references_where t part) r ≡ t (labels_at part r)
where_has t part r h c =
    let k : (row : Entry) × (Contains part row × (row.0 ≡ r)) = of_references part r c in
    let labels : labels_at part r ≡ k.0.1.0 =
    ap (labels_at part) (sym k.1.1) ∙ labels_of part k.0 h k.1.0 in
    ap (has (references_where t part)) (sym k.1.1)
    ∙ rows_have (λ row. t row.1.0) part k.0 h k.1.0
    ∙ ap t (sym labels)

live_has : (from to : ℤ) (part : Part) → IsPart part → AgreeLive (references part)
    (λ r. has (live_references from to part) r) (λ r. has_sample from to (samples_at part r))
live_has from to part is r c =
    let k : (row : Entry) × (Contains part row × (row.0 ≡ r)) = of_references part r c in
    let samples : samples_at part r ≡ k.0.1.1 =
    ap (samples_at part) (sym k.1.1) ∙ samples_of part k.0 is.ascending k.1.0 in
    ap (has (live_references from to part)) (sym k.1.1)
    ∙ rows_have (λ row. has_sample from to row.1.1) part k.0 is.ascending k.1.0
    ∙ ap (has_sample from to) (sym samples)

agrees : (part : Part) (ms : List MatcherView) → IsPart part → Agree (references part) (length ms)
    (λ j r. has (list_at (matcher_lists part ms) j) r) (λ j r. satisfies_at ms j (labels_at part r))
agrees part [] is j r l c = absurd (omega (arith, l))
agrees part (m ∷ ms) is zero r l c = where_has (λ labels. satisfies m labels) part r is.ascending c
agrees part (m ∷ ms) is (suc j) r l c = agrees part ms is j r (omega (arith, l)) c

pub leftmost_asked : (part : Part) (q : QueryView) (c : List Interval) → IsPart part
    → IsLeftmost (asked_by_lists (references part) (matcher_lists part q.matchers)
    (live_references q.from q.to part)) c → IsLeftmost (asked part q) c
leftmost_asked part q c is l =
    leftmost_too (references part) (length q.matchers)
    (λ j r. has (list_at (matcher_lists part q.matchers) j) r) (λ j r.
    satisfies_at q.matchers j (labels_at part r))
    (λ r. has (live_references q.from q.to part) r) (λ r. has_sample q.from q.to
    (samples_at part r)) c (agrees part q.matchers is) (live_has q.from q.to part is)
    (subst (λ (m : ℕ). IsLeftmost (asks (references part) m (λ j r. has
    (list_at (matcher_lists part q.matchers) j) r) (λ r. has (live_references q.from q.to part) r)) c)
    (length_map (λ m. references_where (λ labels. satisfies m labels) part) q.matchers) l)

-- the list of an element
pub list_at_map : {X : Type 0} (f : X → List ℕ) (items : List X) (j : ℕ) (d : X) → j < length items
    → f (get_or items j d) ≡ list_at (map f items) j
list_at_map f [] j d l = absurd (omega (arith, l))
list_at_map f (x ∷ xs) zero d l = refl
list_at_map f (x ∷ xs) (suc j) d l = list_at_map f xs j d (omega (arith, l))

kept_from : (part : Part) (ms : List MatcherView) (R : List ℕ) (Y : List (List ℕ)) (j : ℕ)
    → IsPart part → references part ≡ R → matcher_lists part ms ≡ Y → j < length Y
    → list_at Y j ≡ filter (λ (r : ℕ). has (list_at Y j) r) R
kept_from part ms R Y j is er ey l =
    let short : j < length ms = omega (
      arith,
      l,
      ap length ey,
      length_map (λ m. references_where (λ labels. satisfies m labels) part) ms,
    ) in
    subst (λ (Q : List ℕ). list_at Y j ≡ filter (λ (r : ℕ). has (list_at Y j) r) Q) er
    (subst (λ (Z : List (List ℕ)). list_at Z j ≡ filter (λ (r : ℕ). has (list_at Z j) r)
    (references part)) ey (chosen_kept part ms j is short))

pub accepted_from : {X : Type 0} (F : X → List ℕ) (xs : List X) (R L : List ℕ) (part : Part)
    (ms : List MatcherView) → R ≡ references part → map F xs ≡ matcher_lists part ms → IsPart part
    → (j : ℕ) (d : X) → j < length xs → F (get_or xs j d) ≡ accepted_by (asked_by_lists R (map F xs) L) j
accepted_from F xs R L part ms er ey is j d l =
    list_at_map F xs j d l
    ∙ kept_from part ms R (map F xs) j is (sym er) (sym ey) (omega (arith, l, length_map F xs))

pub living_from : (from to : ℤ) (part : Part) (R : List ℕ) (Y : List (List ℕ)) (L : List ℕ)
    → R ≡ references part → L ≡ live_references from to part → IsPart part
    → L ≡ alive (asked_by_lists R Y L)
living_from from to part R Y L er el is =
    subst (λ (Q : List ℕ). L ≡ filter (λ (r : ℕ). has L r) Q) (sym er)
    (subst (λ (Z : List ℕ). Z ≡ filter (λ (r : ℕ). has Z r) (references part)) (sym el)
    (kept_by (live_references from to part) (references part)
    (rows_rise (λ row. has_sample from to row.1.1) part is.ascending) is.ascending
    (rows_sub (λ row. has_sample from to row.1.1) part)))

pub part_from : (part : Part) (R : List ℕ) (Y : List (List ℕ)) (L : List ℕ) → R ≡ references part
    → IsPart part → IsAsked (asked_by_lists R Y L)
part_from part R Y L e is = record {
  ascending = subst IsStrictlyIncreasing (sym e) is.ascending;
  in_range = λ r c. is.in_range r (subst (λ (Q : List ℕ). Contains Q r) e c);
}

pub leftmost_from : (part : Part) (q : QueryView) (R : List ℕ) (Y : List (List ℕ)) (L : List ℕ)
    (c : List Interval) → R ≡ references part → Y ≡ matcher_lists part q.matchers
    → L ≡ live_references q.from q.to part → IsPart part → IsLeftmost (asked_by_lists R Y L) c
    → IsLeftmost (asked part q) c
leftmost_from part q R Y L c er ey el is l =
    leftmost_asked part q c is
    (subst (λ (M : List ℕ). IsLeftmost (asked_by_lists (references part) (matcher_lists part q.matchers) M) c)
    el
    (subst (λ (Z : List (List ℕ)). IsLeftmost (asked_by_lists (references part) Z L) c) ey
    (subst (λ (Q : List ℕ). IsLeftmost (asked_by_lists Q Y L) c) er l)))

pub asked_part : (part : Part) (q : QueryView) → IsPart part → IsAsked (asked part q)
asked_part part q is = record { ascending = is.ascending; in_range = is.in_range }

both : (x y : Bool) → x ≡ true → y ≡ true → (x && y) ≡ true
both x y e f = rw (e, f) refl

left_of : (x y : Bool) → (x && y) ≡ true → x ≡ true
left_of true y h = refl
left_of false y h = h

right_of : (x y : Bool) → (x && y) ≡ true → y ≡ true
right_of true y h = h
right_of false y h = cc

each_satisfied : (ms : List MatcherView) (labels : Labels)
    → ((j : ℕ) → j < length ms → satisfies_at ms j labels ≡ true) → satisfies_all ms labels ≡ true
each_satisfied [] labels h = refl
each_satisfied (m ∷ ms) labels h =
    let first : satisfies m labels ≡ true = h 0 (omega arith) in
    let rest : satisfies_all ms labels ≡ true =
    each_satisfied ms labels (λ j l. h (suc j) (omega (arith, l))) in
    both (satisfies m labels) (satisfies_all ms labels) first rest

satisfied_each : (ms : List MatcherView) (labels : Labels) (j : ℕ) → satisfies_all ms labels ≡ true
    → j < length ms → satisfies_at ms j labels ≡ true
satisfied_each [] labels j h l = absurd (omega (arith, l))
satisfied_each (m ∷ ms) labels zero h l = left_of (satisfies m labels) (satisfies_all ms labels) h
satisfied_each (m ∷ ms) labels (suc j) h l =
    satisfied_each ms labels j
    (right_of (satisfies m labels) (satisfies_all ms labels) h) (omega (arith, l))

-- what matches, ascending, are the references that a query selects
pub matches_selected : (part : Part) (q : QueryView) (matches : List ℕ) → IsPart part
    → AreMatches (asked part q) matches → matches ≡ matching_references part q
matches_selected part q matches is m =
    let ms : List MatcherView = q.matchers in
    let test : Entry → Bool =
    λ row. satisfies_all q.matchers row.1.0 && has_sample q.from q.to row.1.1 in
    same_lists matches (matching_references part q) m.ascending (rows_rise test part is.ascending)
    (record {
      from_left = λ r c.
          let k : Contains (references part) r × IsMatching (asked part q) r = m.matching r c in
          let row : (row : Entry) × (Contains part row × (row.0 ≡ r)) = of_references part r k.0 in
          let labels : labels_at part r ≡ row.0.1.0 =
          ap (labels_at part) (sym row.1.1) ∙ labels_of part row.0 is.ascending row.1.0 in
          let samples : samples_at part r ≡ row.0.1.1 =
          ap (samples_at part) (sym row.1.1) ∙ samples_of part row.0 is.ascending row.1.0 in
          let satisfied : satisfies_all ms row.0.1.0 ≡ true =
          each_satisfied ms row.0.1.0 (λ j l. ap (satisfies_at ms j) (sym labels) ∙ k.1.0 j l) in
          let live : has_sample q.from q.to row.0.1.1 ≡ true =
          ap (has_sample q.from q.to) (sym samples) ∙ k.1.1 in
          subst (λ (z : ℕ). Contains (matching_references part q) z) row.1.1
          (to_rows test part row.0 row.1.0
          (both (satisfies_all ms row.0.1.0) (has_sample q.from q.to row.0.1.1) satisfied live));
      from_right = λ r c.
          let row : (row : Entry) × (Contains part row × (test row ≡ true) × (row.0 ≡ r)) =
          in_rows test part r c in
          let here_it : Contains (references part) r =
          subst (λ (z : ℕ). Contains (references part) z) row.1.2 (map-has' part row.0 row.1.0) in
          let labels : labels_at part r ≡ row.0.1.0 =
          ap (labels_at part) (sym row.1.2) ∙ labels_of part row.0 is.ascending row.1.0 in
          let samples : samples_at part r ≡ row.0.1.1 =
          ap (samples_at part) (sym row.1.2) ∙ samples_of part row.0 is.ascending row.1.0 in
          let satisfied : satisfies_all ms row.0.1.0 ≡ true =
          left_of (satisfies_all ms row.0.1.0) (has_sample q.from q.to row.0.1.1) row.1.1 in
          let live : has_sample q.from q.to row.0.1.1 ≡ true =
          right_of (satisfies_all ms row.0.1.0) (has_sample q.from q.to row.0.1.1) row.1.1 in
          m.every r here_it (
            λ j l. ap (satisfies_at ms j) labels ∙ satisfied_each ms row.0.1.0 j satisfied l,
            ap (has_sample q.from q.to) samples ∙ live,
          );
    })
