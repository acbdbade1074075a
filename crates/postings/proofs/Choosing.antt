-- What the lists of a matcher's values hold together.
use Rattle.std.proofs.Common.{◌≡◌, ℕ, zero, suc, ◌+◌, ◌<◌, Bool, true, false, not, cond, ◌&&◌, ◌⊎◌, inl, inr, List, [], ◌∷◌, ◌++◌, length, map, get_or, Some, slice_get, refl, sym, ◌∙◌, ap, subst, arith, true≢false}
use Rattle.std.specs.Bool.{beq}
use Rattle.std.specs.List.{filter, Contains}
use Rattle.std.specs.List.Sorted.{IsStrictlyIncreasing}
use Rattle.std.specs.Str.{bytes_eq}
use Rattle.std.specs.Cmp.Lexicographic.{bytes_decides}
use Rattle.std.proofs.lemmas.Bool.{cases_Bool}
use Rattle.std.proofs.lemmas.List.{get_or_default}
use Rattle.std.proofs.lemmas.List.Elements.{Contains-push_cases, Contains-append_left, Contains-push}
use Rattle.labels.specs.Labels.{Labels, value_of}
use Rattle.labels.specs.Rows.{Row}
use Rattle.labels.specs.Parts.{Part, references, references_of, references_where, carries, IsPart}
use Rattle.labels.specs.Sets.{union_all, has, difference}
use Rattle.labels.proofs.Lists.{here, there, Contains-cases, none_in_nil, rising-tail, rising-head, rising-cons, filter-has, filter-from, filter-same}
use Rattle.labels.proofs.SetLemmas.{same_lists, union-rises, union-has, union-from, difference-rises, Contains-has, not_in-has}
use Rattle.matchers.specs.Views.{MatcherView}
use Rattle.matchers.specs.Satisfies.{accepts_by, accepts_text, satisfies, takes_pattern}
use Rattle.matchers.specs.Patterns.{is_full_match}
use Rattle.matchers.specs.Choices.{AreFullMatches}
use Rattle.matchers.specs.declared.matcher.Op.{Op}
use Rattle.matchers.specs.declared.matcher.Op.TheVariants.{Equal, NotEqual, Like, NotLike}
use Rattle.postings.specs.Values.{AreValuesOf}
use Rattle.postings.specs.Differing.{differs, differs_in, AreDiffering}

-- a row of a part
abbrev pub Entry : Type 0
Entry = ℕ × Row

map-has : {X Y : Type 0} (f : X → Y) (xs : List X) (x : X) → Contains xs x → Contains (map f xs) (f x)
map-has f [] x h = absurd (none_in_nil x h)
map-has {X} {Y} f (y ∷ ys) x h = elim (Contains-cases y ys x h) [
  | inl e ↦ subst (λ (z : Y). Contains (f y ∷ map f ys) z) (ap f e) (here (f y) (map f ys))
  | inr d ↦ there (f y) (f x) (map f ys) (map-has f ys x d)
]

of_map : {X Y : Type 0} (f : X → Y) (xs : List X) (y : Y) → Contains (map f xs) y → (x : X) × (Contains xs x × (f x ≡ y))
of_map f [] y h = absurd (none_in_nil y h)
of_map {X} {Y} f (x ∷ xs) y h =
    elim (Contains-cases (f x) (map f xs) y h) [
      | inl e ↦ (x, (here x xs, e))
      | inr d ↦ let k : (z : X) × (Contains xs z × (f z ≡ y)) = of_map f xs y d in (k.0, (there x k.0 xs k.1.0, k.1.1))
    ]

pub in_rows : (t : Entry → Bool) (part : Part) (r : ℕ) → Contains (references_of t part) r
    → (row : Entry) × (Contains part row × (t row ≡ true) × (row.0 ≡ r))
in_rows t part r c =
    let k : (row : Entry) × (Contains (filter t part) row × (row.0 ≡ r)) = of_map (λ (row : Entry). row.0) (filter t part) r c in
    let m : Contains part k.0 × (t k.0 ≡ true) = filter-from t part k.0 k.1.0 in
    (k.0, (m.0, m.1, k.1.1))

pub to_rows : (t : Entry → Bool) (part : Part) (row : Entry) → Contains part row → t row ≡ true → Contains (references_of t part) row.0
to_rows t part row c e = map-has (λ (x : Entry). x.0) (filter t part) row (filter-has t part row c e)

pub rows_rise : (t : Entry → Bool) (part : Part) → IsStrictlyIncreasing (references part) → IsStrictlyIncreasing (references_of t part)
rows_rise t [] h = h
rows_rise t (row ∷ rows) h =
    let ih : IsStrictlyIncreasing (references_of t rows) = rows_rise t rows (rising-tail row.0 (references rows) h) in
    elim (t row) as (λ b. IsStrictlyIncreasing (map (λ (x : Entry). x.0) (cond b (row ∷ filter t rows) (filter t rows)))) [
      | true ↦ rising-cons row.0 (references_of t rows)
          (λ s c. let k : (x : Entry) × (Contains rows x × (t x ≡ true) × (x.0 ≡ s)) = in_rows t rows s c in
          rising-head row.0 (references rows) h s (subst (λ (z : ℕ). Contains (references rows) z) k.1.2 (map-has (λ (x : Entry). x.0) rows k.0 k.1.0)))
          ih
      | false ↦ ih
    ]

pub in_where : (t : Labels → Bool) (part : Part) (r : ℕ) → Contains (references_where t part) r
    → (row : Entry) × (Contains part row × (t row.1.0 ≡ true) × (row.0 ≡ r))
in_where t part r c = in_rows (λ row. t row.1.0) part r c

pub to_where : (t : Labels → Bool) (part : Part) (row : Entry) → Contains part row → t row.1.0 ≡ true → Contains (references_where t part) row.0
to_where t part row c e = to_rows (λ row. t row.1.0) part row c e

pub where_rises : (t : Labels → Bool) (part : Part) → IsStrictlyIncreasing (references part) → IsStrictlyIncreasing (references_where t part)
where_rises t part h = rows_rise (λ row. t row.1.0) part h

pub rows_unique : (part : Part) (x y : Entry) → IsStrictlyIncreasing (references part) → Contains part x → Contains part y → x.0 ≡ y.0 → x ≡ y
rows_unique [] x y h cx cy e = absurd (none_in_nil x cx)
rows_unique (z ∷ zs) x y h cx cy e = elim (Contains-cases z zs x cx) [
  | inl ex ↦ elim (Contains-cases z zs y cy) [
    | inl ey ↦ sym ex ∙ ey
    | inr dy ↦ absurd (
        let l : z.0 < y.0 = rising-head z.0 (references zs) h y.0 (map-has (λ (w : Entry). w.0) zs y dy) in
        omega (arith, ap (λ (w : Entry). w.0) ex))
  ]
  | inr dx ↦ elim (Contains-cases z zs y cy) [
    | inl ey ↦ absurd (
        let l : z.0 < x.0 = rising-head z.0 (references zs) h x.0 (map-has (λ (w : Entry). w.0) zs x dx) in
        omega (arith, ap (λ (w : Entry). w.0) ey))
    | inr dy ↦ rows_unique zs x y (rising-tail z.0 (references zs) h) dx dy e
  ]
]

-- the union of the lists of those of the first i values that pass the test
pub record Gathered (part : Part) (name : List ℕ) (test : List ℕ → Bool) (values : List (List ℕ)) (i : ℕ) (union : List ℕ) : Type 0 where
  pub from : (r : ℕ) → Contains union r → (v : List ℕ) × ((test v ≡ true) × Contains (references_where (carries name v) part) r)
  pub to : (k : ℕ) → k < i → test (get_or values k []) ≡ true → (r : ℕ) → Contains (references_where (carries name (get_or values k [])) part) r → Contains union r

below_or_at : (k i : ℕ) → k < i + 1 → (k < i) ⊎ (k ≡ i)
below_or_at k i h = grind arith

pub gathered_start : (part : Part) (name : List ℕ) (test : List ℕ → Bool) (values : List (List ℕ)) → Gathered part name test values 0 []
gathered_start part name test values = record { from = λ r c. absurd (none_in_nil r c); to = λ k l. absurd (omega (arith, l)) }

value_at : (values : List (List ℕ)) (i : ℕ) (v : List ℕ) → slice_get values i ≡ Some v → get_or values i [] ≡ v
value_at [] i v e = cc
value_at (x ∷ xs) zero v e = cc
value_at (x ∷ xs) (suc i) v e = value_at xs i v e

pub gathered_skip : (part : Part) (name : List ℕ) (test : List ℕ → Bool) (values : List (List ℕ)) (i : ℕ) (union v : List ℕ) → Gathered part name test values i union
    → slice_get values i ≡ Some v → test v ≡ false → Gathered part name test values (i + 1) union
gathered_skip part name test values i union v g at fails = record {
  from = g.from;
  to = λ k l t r c. elim (below_or_at k i l) [
    | inl b ↦ g.to k b t r c
    | inr e ↦ absurd (let same : get_or values k [] ≡ v = ap (λ n. get_or values n []) e ∙ value_at values i v at in let yes' : test v ≡ true = ap test (sym same) ∙ t in cc)
  ];
}

pub gathered_none : (part : Part) (name : List ℕ) (test : List ℕ → Bool) (values : List (List ℕ)) (i : ℕ) (union v : List ℕ) → Gathered part name test values i union
    → slice_get values i ≡ Some v → references_where (carries name v) part ≡ [] → Gathered part name test values (i + 1) union
gathered_none part name test values i union v g at fails = record {
  from = g.from;
  to = λ k l t r c. elim (below_or_at k i l) [
    | inl b ↦ g.to k b t r c
    | inr e ↦ absurd (
        let same : get_or values k [] ≡ v = ap (λ n. get_or values n []) e ∙ value_at values i v at in
        let d : Contains (references_where (carries name v) part) r = subst (λ (w : List ℕ). Contains (references_where (carries name w) part) r) same c in
        none_in_nil r (subst (λ (xs : List ℕ). Contains xs r) fails d))
  ];
}

union-push_from : (xss : List (List ℕ)) (ys : List ℕ) (r : ℕ) → Contains (union_all (xss ++ ys ∷ [])) r → Contains (union_all xss) r ⊎ Contains ys r
union-push_from xss ys r c =
    let k : (xs : List ℕ) × (Contains (xss ++ ys ∷ []) xs × Contains xs r) = union-from (xss ++ ys ∷ []) r c in
    elim (Contains-push_cases xss ys k.0 k.1.0) [
      | inl d ↦ inl (union-has xss k.0 r d k.1.1)
      | inr e ↦ inr (subst (λ (zs : List ℕ). Contains zs r) (sym e) k.1.1)
    ]

pub gathered_push : (part : Part) (name : List ℕ) (test : List ℕ → Bool) (values : List (List ℕ)) (i : ℕ) (xss : List (List ℕ)) (v ys : List ℕ)
    → Gathered part name test values i (union_all xss) → slice_get values i ≡ Some v → test v ≡ true → ys ≡ references_where (carries name v) part
    → Gathered part name test values (i + 1) (union_all (xss ++ ys ∷ []))
gathered_push part name test values i xss v ys g at yes' is = record {
  from = λ r c. elim (union-push_from xss ys r c) [
    | inl d ↦ g.from r d
    | inr d ↦ (v, (yes', subst (λ (zs : List ℕ). Contains zs r) is d))
  ];
  to = λ k l t r c. elim (below_or_at k i l) [
    | inl b ↦
        let m : (xs : List ℕ) × (Contains xss xs × Contains xs r) = union-from xss r (g.to k b t r c) in
        union-has (xss ++ ys ∷ []) m.0 r (Contains-append_left xss (ys ∷ []) m.0 m.1.0) m.1.1
    | inr e ↦
        let same : get_or values k [] ≡ v = ap (λ n. get_or values n []) e ∙ value_at values i v at in
        let d : Contains (references_where (carries name v) part) r = subst (λ (w : List ℕ). Contains (references_where (carries name w) part) r) same c in
        union-has (xss ++ ys ∷ []) ys r (Contains-push xss ys) (subst (λ (zs : List ℕ). Contains zs r) (sym is) d)
  ];
}

-- what carries tells
carries_value : (name v : List ℕ) (labels : Labels) → carries name v labels ≡ true → (value_of labels name ≡ v) × (bytes_eq v [] ≡ false)
carries_value name v labels e = go (bytes_eq v []) refl
  where
    go : (b : Bool) → bytes_eq v [] ≡ b → (value_of labels name ≡ v) × (bytes_eq v [] ≡ false)
    go true q = absurd (let t : (not true && bytes_eq (value_of labels name) v) ≡ true = ap (λ x. not x && bytes_eq (value_of labels name) v) (sym q) ∙ e in cc)
    go false q = ((bytes_decides (value_of labels name) v).0 (ap (λ x. not x && bytes_eq (value_of labels name) v) (sym q) ∙ e), q)

carries_own : (name : List ℕ) (labels : Labels) → bytes_eq (value_of labels name) [] ≡ false → carries name (value_of labels name) labels ≡ true
carries_own name labels e = ap (λ x. not x && bytes_eq (value_of labels name) (value_of labels name)) e ∙ (bytes_decides (value_of labels name) (value_of labels name)).1 refl

-- a row whose value is not empty and passes the test has its reference in the union, where the value was tried
gathered_has : (part : Part) (name : List ℕ) (test : List ℕ → Bool) (values : List (List ℕ)) (union : List ℕ) → Gathered part name test values (length values) union
    → (row : Entry) → Contains part row → bytes_eq (value_of row.1.0 name) [] ≡ false → test (value_of row.1.0 name) ≡ true → Contains values (value_of row.1.0 name) → Contains union row.0
gathered_has part name test values union g row c some t k =
    let same : get_or values k.0 [] ≡ value_of row.1.0 name = get_or_default values k.0 [] (value_of row.1.0 name) k.1 ∙ k.2 in
    g.to k.0 k.1 (ap test same ∙ t) row.0
    (subst (λ (w : List ℕ). Contains (references_where (carries name w) part) row.0) (sym same) (to_where (carries name (value_of row.1.0 name)) part row c (carries_own name row.1.0 some)))

-- with all those values tried of which the test holds, and not for the empty text: the series whose value passes
pub gathered_where : (part : Part) (name : List ℕ) (test : List ℕ → Bool) (values : List (List ℕ)) (union : List ℕ) → IsPart part → IsStrictlyIncreasing union → test [] ≡ false
    → ((row : Entry) → Contains part row → bytes_eq (value_of row.1.0 name) [] ≡ false → test (value_of row.1.0 name) ≡ true → Contains values (value_of row.1.0 name))
    → Gathered part name test values (length values) union → union ≡ references_where (λ labels. test (value_of labels name)) part
gathered_where part name test values union is rising absent tried g =
    same_lists union (references_where (λ labels. test (value_of labels name)) part) rising (where_rises (λ labels. test (value_of labels name)) part is.ascending)
    (record {
      from_left = λ r c.
          let k : (v : List ℕ) × ((test v ≡ true) × Contains (references_where (carries name v) part) r) = g.from r c in
          let row : (row : Entry) × (Contains part row × (carries name k.0 row.1.0 ≡ true) × (row.0 ≡ r)) = in_where (carries name k.0) part r k.1.1 in
          let value : (value_of row.0.1.0 name ≡ k.0) × (bytes_eq k.0 [] ≡ false) = carries_value name k.0 row.0.1.0 row.1.1 in
          subst (λ (z : ℕ). Contains (references_where (λ labels. test (value_of labels name)) part) z) row.1.2
          (to_where (λ labels. test (value_of labels name)) part row.0 row.1.0 (ap test value.0 ∙ k.1.0));
      from_right = λ r c.
          let row : (row : Entry) × (Contains part row × (test (value_of row.1.0 name) ≡ true) × (row.0 ≡ r)) = in_where (λ labels. test (value_of labels name)) part r c in
          let some : bytes_eq (value_of row.0.1.0 name) [] ≡ false = not_empty test absent (value_of row.0.1.0 name) row.1.1 in
          subst (λ (z : ℕ). Contains union z) row.1.2
          (gathered_has part name test values union g row.0 row.1.0 some row.1.1 (tried row.0 row.1.0 some row.1.1));
    })
  where
    not_empty : (test : List ℕ → Bool) → test [] ≡ false → (v : List ℕ) → test v ≡ true → bytes_eq v [] ≡ false
    not_empty test absent v t = go (bytes_eq v []) refl
      where
        go : (b : Bool) → bytes_eq v [] ≡ b → bytes_eq v [] ≡ false
        go true q = absurd (let e : v ≡ [] = (bytes_decides v []).0 q in let f : test [] ≡ true = ap test (sym e) ∙ t in cc)
        go false q = q

-- with all values tried, where the test fails for the empty text: the series whose value passes
pub gathered_all : (part : Part) (name : List ℕ) (test : List ℕ → Bool) (values : List (List ℕ)) (union : List ℕ) → IsPart part → AreValuesOf part name values
    → IsStrictlyIncreasing union → test [] ≡ false → Gathered part name test values (length values) union
    → union ≡ references_where (λ labels. test (value_of labels name)) part
gathered_all part name test values union is are rising absent g =
    gathered_where part name test values union is rising absent (λ row c some t. are.present row c some) g

-- tests that agree list the same
pub where-same : (t u : Labels → Bool) (part : Part) → ((labels : Labels) → t labels ≡ u labels) → references_where t part ≡ references_where u part
where-same t u part same = ap (λ (rows : Part). map (λ (row : Entry). row.0) rows) (filter-same (λ (row : Entry). t row.1.0) (λ (row : Entry). u row.1.0) part (λ row c. same row.1.0))

-- all references but those that pass a test are those that fail it
pub all_but : (part : Part) (t u : Labels → Bool) → IsPart part → ((labels : Labels) → u labels ≡ not (t labels))
    → difference (references part) (references_where t part) ≡ references_where u part
all_but part t u is other =
    same_lists (difference (references part) (references_where t part)) (references_where u part)
    (difference-rises (references part) (references_where t part) is.ascending) (where_rises u part is.ascending)
    (record {
      from_left = λ r c.
          let k : Contains (references part) r × (not (has (references_where t part) r) ≡ true) = filter-from (λ x. not (has (references_where t part) x)) (references part) r c in
          let row : (row : Entry) × (Contains part row × (row.0 ≡ r)) = of_map (λ (x : Entry). x.0) part r k.0 in
          subst (λ (z : ℕ). Contains (references_where u part) z) row.1.1
          (to_where u part row.0 row.1.0 (fails row.0 row.1.0 (ap (λ z. not (has (references_where t part) z)) row.1.1 ∙ k.1)));
      from_right = λ r c.
          let row : (row : Entry) × (Contains part row × (u row.1.0 ≡ true) × (row.0 ≡ r)) = in_where u part r c in
          let in_all : Contains (references part) r = subst (λ (z : ℕ). Contains (references part) z) row.1.2 (map-has (λ (x : Entry). x.0) part row.0 row.1.0) in
          let out : has (references_where t part) r ≡ false = not_in-has (references_where t part) r (λ d.
          let passing : (row : Entry) × (Contains part row × (t row.1.0 ≡ true) × (row.0 ≡ r)) = in_where t part r d in
          let same : row.0 ≡ passing.0 = rows_unique part row.0 passing.0 is.ascending row.1.0 passing.1.0 (row.1.2 ∙ sym passing.1.2) in
          let a : t row.0.1.0 ≡ true = ap (λ (x : Entry). t x.1.0) same ∙ passing.1.1 in
          let b : not true ≡ true = ap not (sym a) ∙ sym (other row.0.1.0) ∙ row.1.1 in
          cc) in
          filter-has (λ x. not (has (references_where t part) x)) (references part) r in_all (ap not out);
    })
  where
    fails : (row : Entry) → Contains part row → not (has (references_where t part) row.0) ≡ true → u row.1.0 ≡ true
    fails row c out = go (t row.1.0) refl
      where
        go : (b : Bool) → t row.1.0 ≡ b → u row.1.0 ≡ true
        go false e = other row.1.0 ∙ ap not e
        go true e = absurd (
            let within : has (references_where t part) row.0 ≡ true = Contains-has (references_where t part) row.0 (to_where t part row c e) in
            let b : not true ≡ true = ap not (sym within) ∙ out in
            cc)

-- the union of one list
pub union-one : (xs : List ℕ) → IsStrictlyIncreasing xs → union_all (xs ∷ []) ≡ xs
union-one xs rising =
    same_lists (union_all (xs ∷ [])) xs (union-rises (xs ∷ [])) rising
    (record {
      from_left = λ r c. elim (union-push_from [] xs r c) [
        | inl d ↦ absurd (none_in_nil r d)
        | inr d ↦ d
      ];
      from_right = λ r c. union-has (xs ∷ []) xs r (here xs []) c;
    })

pub map_push : {X Y : Type 0} (f : X → Y) (xs : List X) (x : X) → map f (xs ++ x ∷ []) ≡ map f xs ++ f x ∷ []
map_push f [] x = refl
map_push f (y ∷ ys) x = ap (λ zs. f y ∷ zs) (map_push f ys x)

-- no matcher treats the empty text otherwise than an absent label
pub absent_same : (m : MatcherView) → differs m [] ≡ false
absent_same m = elim (accepts_text m []) as (λ b. cond b (not b) b ≡ false) [ true ↦ refl | false ↦ refl ]

-- as the code tests it
pub differs_tried : (m : MatcherView) (value : List ℕ) (accepted absent : Bool) → accepted ≡ accepts_text m value → absent ≡ accepts_text m [] → differs m value ≡ not (beq accepted absent)
differs_tried m value accepted absent e f =
    ap (λ b. cond b (not (accepts_text m value)) (accepts_text m value)) (sym f) ∙ ap (λ b. cond absent (not b) b) (sym e) ∙ tried accepted absent
  where
    tried : (a b : Bool) → cond b (not a) a ≡ not (beq a b)
    tried true true = refl
    tried true false = refl
    tried false true = refl
    tried false false = refl

-- where a matcher accepts an absent label, it accepts the values that it treats alike, and else the others
pub accepted_alike : (m : MatcherView) → accepts_text m [] ≡ true → (labels : Labels) → satisfies m labels ≡ not (differs_in m labels)
accepted_alike m e labels = subst (λ (b : Bool). accepts_text m (value_of labels m.name) ≡ not (cond b (not (accepts_text m (value_of labels m.name))) (accepts_text m (value_of labels m.name)))) (sym e) (twice (accepts_text m (value_of labels m.name)))
  where
    twice : (b : Bool) → b ≡ not (not b)
    twice true = refl
    twice false = refl

pub refused_alike : (m : MatcherView) → accepts_text m [] ≡ false → (labels : Labels) → differs_in m labels ≡ satisfies m labels
refused_alike m e labels = ap (λ b. cond b (not (accepts_text m (value_of labels m.name))) (accepts_text m (value_of labels m.name))) e

-- what a test of one value lists, where that is not empty
pub carried_alone : (m : MatcherView) (text : List ℕ) (part : Part) → bytes_eq text [] ≡ false → ((value : List ℕ) → differs m value ≡ bytes_eq value text)
    → references_where (carries m.name text) part ≡ references_where (differs_in m) part
carried_alone m text part some alone =
    where-same (carries m.name text) (differs_in m) part
    (λ labels. ap (λ b. not b && bytes_eq (value_of labels m.name) text) some ∙ sym (alone (value_of labels m.name)))

-- a matcher whose pattern does not match the empty text treats otherwise what the pattern matches
pub differs_alike : (m : MatcherView) → takes_pattern m.op ≡ true → is_full_match m.text [] ≡ false → (value : List ℕ) → differs m value ≡ is_full_match m.text value
differs_alike m takes absent value = go m.op takes
  where
    go : (op : Op) → takes_pattern op ≡ true → cond (accepts_by op m.text []) (not (accepts_by op m.text value)) (accepts_by op m.text value) ≡ is_full_match m.text value
    go Equal e = absurd (true≢false (sym e))
    go NotEqual e = absurd (true≢false (sym e))
    go Like e = ap (λ b. cond b (not (is_full_match m.text value)) (is_full_match m.text value)) absent
    go NotLike e = ap (λ b. cond (not b) (not (not (is_full_match m.text value))) (not (is_full_match m.text value))) absent ∙ twice (is_full_match m.text value)
      where
        twice : (b : Bool) → not (not b) ≡ b
        twice true = refl
        twice false = refl

-- and so exactly its choices
pub differs_in_choices : (m : MatcherView) (choices : List (List ℕ)) → takes_pattern m.op ≡ true → AreFullMatches m.text choices → (Contains choices [] → ⊥)
    → AreDiffering m choices
differs_in_choices m choices takes told filled = record {
  each = λ value. (λ e. (told.each value).0 (sym (same value) ∙ e), λ c. same value ∙ (told.each value).1 c);
}
  where
    absent : is_full_match m.text [] ≡ false
    absent = elim (cases_Bool (is_full_match m.text [])) [
      | inl e ↦ absurd (filled ((told.each []).0 e))
      | inr e ↦ e
    ]

    same : (value : List ℕ) → differs m value ≡ is_full_match m.text value
    same = differs_alike m takes absent
