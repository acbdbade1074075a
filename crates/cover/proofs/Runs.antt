-- the runs of intervals, and how chained intervals lie to one another
use Rattle.std.proofs.Common.{◌≡◌, ℕ, ◌<◌, ◌≤◌, true, ◌&&◌, inl, inr, List, [], ◌∷◌, map, sym, ◌∙◌, ap, subst, arith}
use Rattle.std.specs.List.{flat_map, Contains}
use Rattle.std.specs.List.Sorted.{IsStrictlyIncreasing}
use Rattle.std.specs.Prelude.{nat_le, nat_lt}
use Rattle.std.proofs.lemmas.Bool.Decides.{nat_tests}
use Rattle.std.proofs.lemmas.List.Elements.{Contains-append_cases}
use Rattle.labels.proofs.Lists.{here, there, Contains-cases, none_in_nil, rising-cons, filter-has, filter-from, filter-same, last_below}
use Rattle.cover.specs.declared.certificate.Interval.{Interval}
use Rattle.cover.specs.Certificates.{Asked, IsAsked, references_between, IsRun, run_of, next_from, IsChained, IsValidCertificate, begins_of}

pub in_run : (a : Asked) (i : Interval) (r : ℕ) → Contains a.references r → i.from ≤ r → r < i.until
    → Contains (run_of a i) r
in_run a i r c low high = filter-has _ a.references r c (grind (arith, nat_tests))

pub of_run : (a : Asked) (i : Interval) (r : ℕ) → Contains (run_of a i) r
    → Contains a.references r × (i.from ≤ r) × (r < i.until)
of_run a i r c =
    let k : Contains a.references r × ((nat_le i.from r && nat_lt r i.until) ≡ true) =
    filter-from _ a.references r c in
    (k.0, grind (arith, nat_tests), grind (arith, nat_tests))

pub in_between : (a : Asked) (low high r : ℕ) → Contains a.references r → low ≤ r → r ≤ high
    → Contains (references_between a low high) r
in_between a low high r c l h = filter-has _ a.references r c (grind (arith, nat_tests))

pub of_between : (a : Asked) (low high r : ℕ) → Contains (references_between a low high) r
    → Contains a.references r × (low ≤ r) × (r ≤ high)
of_between a low high r c =
    let k : Contains a.references r × ((nat_le low r && nat_le r high) ≡ true) =
    filter-from _ a.references r c in
    (k.0, grind (arith, nat_tests), grind (arith, nat_tests))

-- each interval begins below its end
abbrev pub AllForward : List Interval → Type 0
AllForward c = (i : Interval) → Contains c i → i.from < i.until

pub begins_not_below : (c : List Interval) → IsChained c → AllForward c → (i : Interval)
    → Contains c i → next_from c ≤ i.from
begins_not_below [] ch f i h = absurd (none_in_nil i h)
begins_not_below (k ∷ ks) ch f i h =
    elim (Contains-cases k ks i h) [
      | inl e ↦ rw e (omega arith)
      | inr d ↦
          let ih : next_from ks ≤ i.from =
          begins_not_below ks ch.1 (λ j m. f j (there k j ks m)) i d in
          let fk : k.from < k.until = f k (here k ks) in
          omega (arith, ch.0)
    ]

-- each interval ends by the end of all references
pub ends_in_range : (c : List Interval) → IsChained c → AllForward c → (i : Interval) → Contains c i
    → i.until ≤ 4294967296
ends_in_range [] ch f i h = absurd (none_in_nil i h)
ends_in_range (k ∷ []) ch f i h =
    elim (Contains-cases k [] i h)
    [ inl e ↦ rw (← e) (omega (arith, ch.0)) | inr d ↦ absurd (none_in_nil i d) ]
ends_in_range (k ∷ l ∷ ks) ch f i h =
    let ih : (j : Interval) → Contains (l ∷ ks) j → j.until ≤ 4294967296 =
    ends_in_range (l ∷ ks) ch.1 (λ j m. f j (there k j (l ∷ ks) m)) in
    elim (Contains-cases k (l ∷ ks) i h) [
      | inl e ↦
          let fl : l.from < l.until = f l (there k l (l ∷ ks) (here l ks)) in
          let el : l.until ≤ 4294967296 = ih l (here l ks) in
          rw (← e) (omega (arith, ch.0))
      | inr d ↦ ih i d
    ]

-- a reference of the parts that a list of intervals stands for stands in one of them
pub in_some : (a : Asked) (c : List Interval) (r : ℕ)
    → Contains (flat_map (λ (run : List ℕ). run) (map (run_of a) c)) r
    → (i : Interval) × (Contains c i × Contains (run_of a i) r)
in_some a [] r h = absurd (none_in_nil r h)
in_some a (i ∷ is) r h =
    elim (Contains-append_cases (run_of a i)
    (flat_map (λ (run : List ℕ). run) (map (run_of a) is)) r h) [
      | inl e ↦ (i, (here i is, e))
      | inr d ↦
          let k : (i : Interval) × (Contains is i × Contains (run_of a i) r) = in_some a is r d in
          (k.0, (there i k.0 is k.1.0, k.1.1))
    ]

pub valid_forward : (a : Asked) (c : List Interval) → IsValidCertificate a c → AllForward c
valid_forward a c v =
    λ i m. let k : Contains a.references i.from × (i.from ≤ i.from) × (i.from < i.until) =
    of_run a i i.from (v.begins i m) in k.2

pub map-has : {X Y : Type 0} (f : X → Y) (xs : List X) (x : X) → Contains xs x
    → Contains (map f xs) (f x)
map-has {X} {Y} f [] x h = absurd (none_in_nil x h)
map-has {X} {Y} f (y ∷ ys) x h =
    elim (Contains-cases y ys x h) [
      | inl e ↦ subst (λ (z : Y). Contains (f y ∷ map f ys) z) (ap f e) (here (f y) (map f ys))
      | inr d ↦ there (f y) (f x) (map f ys) (map-has f ys x d)
    ]

pub of_begins : (c : List Interval) (s : ℕ) → Contains (begins_of c) s
    → (i : Interval) × (Contains c i × (i.from ≡ s))
of_begins [] s h = absurd (none_in_nil s h)
of_begins (i ∷ is) s h =
    elim (Contains-cases i.from (begins_of is) s h) [
      | inl e ↦ (i, (here i is, e))
      | inr d ↦
          let k : (i : Interval) × (Contains is i × (i.from ≡ s)) = of_begins is s d in
          (k.0, (there i k.0 is k.1.0, k.1.1))
    ]

pub begins_rise : (c : List Interval) → IsChained c → AllForward c
    → IsStrictlyIncreasing (begins_of c)
begins_rise [] ch f = λ k l. absurd (omega (arith, l))
begins_rise (i ∷ is) ch f =
    let fs : AllForward is = λ j m. f j (there i j is m) in
    rising-cons i.from (begins_of is)
    (λ s m.
    let k : (j : Interval) × (Contains is j × (j.from ≡ s)) = of_begins is s m in
    let low : next_from is ≤ k.0.from = begins_not_below is ch.1 fs k.0 k.1.0 in
    let fi : i.from < i.until = f i (here i is) in
    omega (arith, ch.0, k.1.1))
    (begins_rise is ch.1 fs)

-- a later interval begins at or past an earlier one's end
pub ends_before : (c : List Interval) → IsChained c → AllForward c → (i k : Interval) → Contains c i
    → Contains c k → i.from < k.from → i.until ≤ k.from
ends_before [] ch f i k hi hk lt = absurd (none_in_nil i hi)
ends_before (j ∷ js) ch f i k hi hk lt =
    let fs : AllForward js = λ l m. f l (there j l js m) in
    let fj : j.from < j.until = f j (here j js) in
    elim (Contains-cases j js i hi) [
      | inl ei ↦ elim (Contains-cases j js k hk) [
        | inl ek ↦
            absurd (let same : i.from ≡ k.from = ap (λ (x : Interval). x.from) (sym ei ∙ ek) in
            omega arith)
        | inr dk ↦
            let low : next_from js ≤ k.from = begins_not_below js ch.1 fs k dk in
            let eu : j.until ≡ i.until = ap (λ (x : Interval). x.until) ei in
            omega (arith, ch.0)
      ]
      | inr di ↦ elim (Contains-cases j js k hk) [
        | inl ek ↦ absurd (
            let low : next_from js ≤ i.from = begins_not_below js ch.1 fs i di in
            let ef : j.from ≡ k.from = ap (λ (x : Interval). x.from) ek in
            omega (arith, ch.0))
        | inr dk ↦ ends_before js ch.1 fs i k di dk lt
      ]
    ]

pub of_map : {X Y : Type 0} (f : X → Y) (xs : List X) (y : Y) → Contains (map f xs) y
    → (x : X) × (Contains xs x × (f x ≡ y))
of_map f [] y h = absurd (none_in_nil y h)
of_map {X} {Y} f (x ∷ xs) y h =
    elim (Contains-cases (f x) (map f xs) y h) [
      | inl e ↦ (x, (here x xs, e))
      | inr d ↦
          let k : (z : X) × (Contains xs z × (f z ≡ y)) = of_map f xs y d in
          (k.0, (there x k.0 xs k.1.0, k.1.1))
    ]

-- what an interval stands for is a run
pub interval_run : (a : Asked) (i : Interval) → IsAsked a → Contains a.references i.from
    → i.from < i.until → IsRun a (run_of a i)
interval_run a i part c l =
    let h : (h : ℕ) × (Contains a.references h × (i.from ≤ h) × (h < i.until)
    × ((r : ℕ) → Contains a.references r → r < i.until → r ≤ h)) =
    last_below a.references i.from i.until part.ascending c l in
    record {
      low = i.from;
      high = h.0;
      has_low = c;
      has_high = h.1.0;
      ordered = h.1.1;
      is =
          filter-same (λ r. nat_le i.from r && nat_lt r i.until) (λ r. nat_le i.from r
          && nat_le r h.0) a.references (λ r d. same_tests i.from i.until h.0 r h.1.2 (h.1.3 r d));
    }
  where
    same_tests : (low until h r : ℕ) → h < until → (r < until → r ≤ h)
        → (nat_le low r && nat_lt r until) ≡ (nat_le low r && nat_le r h)
    same_tests low until h r lt up = grind (arith, nat_tests)
