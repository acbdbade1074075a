-- What a query asks for of a part that has grown: it asks for more, or for the same samples.
use Rattle.std.proofs.Common.{◌≡◌, ℕ, ◌+◌, ◌≤◌, ℤ, Bool, true, false, cond, ◌&&◌, ◌⊎◌, inl, inr, List, [], ◌∷◌, ◌++◌, length, refl, sym, ◌∙◌, ap, subst, arith, length-append}
use Rattle.std.specs.Prelude.{nat_eq, ◌||◌}
use Rattle.std.specs.List.{filter, Contains}
use Rattle.std.proofs.lemmas.Bool.Decides.{nat_tests}
use Rattle.std.proofs.lemmas.List.Elements.{filter-append}
use Rattle.std.proofs.lemmas.List.Folds.{list_any-append}
use Rattle.labels.specs.Labels.{Labels}
use Rattle.labels.specs.Contents.{Content, in_range}
use Rattle.labels.specs.Rows.{Row, points_in}
use Rattle.labels.specs.Parts.{Part, references, has_sample}
use Rattle.labels.proofs.Lists.{Contains-cases, none_in_nil}
use Rattle.labels.proofs.Times.{true_not_false}
use Rattle.labels.proofs.ContentLaws.{length-points_in}
use Rattle.matchers.specs.Satisfies.{satisfies_all}
use Rattle.matchers.specs.Views.{QueryView}
use Rattle.cover.specs.Asking.{labels_at, samples_at}
use Rattle.reply_reader.proofs.Booleans.{or_cases}
use Rattle.whole_audit.specs.Growing.{GrowsTo}
use Rattle.whole_audit.specs.Counting.{asks, asked_of, asked_points}

-- the samples of a series that a query asks for, as a series of the part has them
abbrev pub points_of_row : QueryView → Labels → List (ℤ × ℤ) → Content
points_of_row query l ss = points_in l (asked_of query l ss)

abbrev pub Entry : Type 0
Entry = ℕ × Row

pub nil_of_none : {A : Type 0} (xs : List A) → length xs ≡ 0 → xs ≡ []
nil_of_none [] e = refl
nil_of_none (x ∷ xs) e = cc

points_in-append : (l : Labels) (xs ys : List (ℤ × ℤ))
    → points_in l (xs ++ ys) ≡ points_in l xs ++ points_in l ys
points_in-append l [] ys = refl
points_in-append l (x ∷ xs) ys = ap (λ c. ((l, x.0), x.1) ∷ c) (points_in-append l xs ys)

append-nil : {A : Type 0} (xs : List A) → xs ++ [] ≡ xs
append-nil [] = refl
append-nil (x ∷ xs) = ap (λ ys. x ∷ ys) (append-nil xs)

-- what is asked for of a row that has grown
row_grown : (query : QueryView) (l : Labels) (ss more : List (ℤ × ℤ))
    → points_of_row query l (ss ++ more) ≡ points_of_row query l ss ++ points_of_row query l more
row_grown query l ss more =
    ap (points_in l) (filter-append (λ (s : ℤ × ℤ). asks query (l, s.0)) ss more)
    ∙ points_in-append l (asked_of query l ss) (asked_of query l more)

-- what is asked for of the first series, where it has grown
first_grown : (query : QueryView) (x y : Entry) (more : List (ℤ × ℤ)) → x.1.0 ≡ y.1.0
    → y.1.1 ≡ x.1.1 ++ more
    → points_of_row query y.1.0 y.1.1
    ≡ points_of_row query x.1.0 x.1.1 ++ points_of_row query x.1.0 more
first_grown query x y more same grown =
    ap (λ (l : Labels). points_of_row query l y.1.1) (sym same)
    ∙ ap (points_of_row query x.1.0) grown
    ∙ row_grown query x.1.0 x.1.1 more

-- how many are asked for, where the first series has grown
first_length : (query : QueryView) (x y : Entry) (more : List (ℤ × ℤ)) → x.1.0 ≡ y.1.0
    → y.1.1 ≡ x.1.1 ++ more → length (points_of_row query y.1.0 y.1.1)
    ≡ length (points_of_row query x.1.0 x.1.1) + length (points_of_row query x.1.0 more)
first_length query x y more same grown =
    ap length (first_grown query x y more same grown)
    ∙ length-append (points_of_row query x.1.0 x.1.1) (points_of_row query x.1.0 more)

pub whole_length : (query : QueryView) (x : Entry) (xs : Part) → length (asked_points query (x ∷ xs))
    ≡ length (points_of_row query x.1.0 x.1.1) + length (asked_points query xs)
whole_length query x xs = length-append (points_of_row query x.1.0 x.1.1) (asked_points query xs)

pub asks_no_less : (query : QueryView) (p q : Part) → GrowsTo p q
    → length (asked_points query p) ≤ length (asked_points query q)
asks_no_less query [] q g = omega arith
asks_no_less query (x ∷ xs) [] g = absurd g
asks_no_less query (x ∷ xs) (y ∷ ys) g =
    let ih : length (asked_points query xs) ≤ length (asked_points query ys) =
    asks_no_less query xs ys g.3 in
    let first = first_length query x y g.2.0 g.1 g.2.1 in
    omega (arith, first, whole_length query x xs, whole_length query y ys)

-- in this part r has a sample in the range
abbrev pub IsLive : QueryView → Part → ℕ → Type 0
IsLive query part r = has_sample query.from query.to (samples_at part r) ≡ true

-- no sample of a label set that satisfies all matchers was added in the range
abbrev pub NoneAdded : QueryView → Part → Part → Type 0
NoneAdded query p q =
    (r : ℕ) → Contains (references p) r → satisfies_all query.matchers (labels_at p r) ≡ true
    → IsLive query q r → IsLive query p r

pub record AsksTheSame (query : QueryView) (p q : Part) : Type 0 where
  pub points : asked_points query q ≡ asked_points query p
  pub live : NoneAdded query p q

none_in_range : (from to : ℤ) (ss : List (ℤ × ℤ))
    → length (filter (λ (s : ℤ × ℤ). in_range from to s.0) ss) ≡ 0
    → has_sample from to ss ≡ false
none_in_range from to [] e = refl
none_in_range from to (s ∷ ss) e =
    elim (in_range from to s.0) as (λ b.
    length (cond b (s ∷ filter (λ (s : ℤ × ℤ). in_range from to s.0) ss)
    (filter (λ (s : ℤ × ℤ). in_range from to s.0) ss)) ≡ 0
    → (b || has_sample from to ss) ≡ false) [
      | true ↦ λ h. absurd (omega (arith, h))
      | false ↦ λ h. none_in_range from to ss h
    ] e

none_asked : (query : QueryView) (l : Labels) (ss : List (ℤ × ℤ))
    → satisfies_all query.matchers l ≡ true → points_of_row query l ss ≡ []
    → has_sample query.from query.to ss ≡ false
none_asked query l ss sat none =
    none_in_range query.from query.to ss
    (subst (λ (b : Bool). length (filter (λ (s : ℤ × ℤ).
    b && in_range query.from query.to s.0) ss) ≡ 0) sat
    (sym (length-points_in l (asked_of query l ss)) ∙ ap length none))

-- of the first series, where nothing was added that is asked for
first_live : (query : QueryView) (x y : Entry) (more : List (ℤ × ℤ)) → y.1.1 ≡ x.1.1 ++ more
    → points_of_row query x.1.0 more ≡ [] → satisfies_all query.matchers x.1.0 ≡ true
    → has_sample query.from query.to y.1.1 ≡ true → has_sample query.from query.to x.1.1 ≡ true
first_live query x y more grown none sat live =
    let old : Bool = has_sample query.from query.to x.1.1 in
    let new : Bool = has_sample query.from query.to more in
    let either : (old || new) ≡ true =
    sym (list_any-append (λ (s : ℤ × ℤ). in_range query.from query.to s.0) x.1.1 more)
    ∙ sym (ap (has_sample query.from query.to) grown) ∙ live in
    elim (or_cases old new either) [
      | inl e ↦ e
      | inr e ↦ absurd (true_not_false (sym e ∙ none_asked query x.1.0 more sat none))
    ]

live_of_all : (query : QueryView) (x y : Entry) (xs ys : Part) → x.0 ≡ y.0
    → (satisfies_all query.matchers x.1.0 ≡ true → has_sample query.from query.to y.1.1 ≡ true
    → has_sample query.from query.to x.1.1 ≡ true)
    → NoneAdded query xs ys → NoneAdded query (x ∷ xs) (y ∷ ys)
live_of_all query x y xs ys same first later r c sat live =
    go (nat_eq x.0 r) refl (Contains-cases x.0 (references xs) r c) sat
    (ap (λ n. has_sample query.from query.to (cond (nat_eq n r) y.1.1 (samples_at ys r))) same
    ∙ live)
  where
    go : (b : Bool) → nat_eq x.0 r ≡ b → (x.0 ≡ r) ⊎ Contains (references xs) r
        → satisfies_all query.matchers (cond b x.1.0 (labels_at xs r)) ≡ true
        → has_sample query.from query.to (cond b y.1.1 (samples_at ys r)) ≡ true
        → has_sample query.from query.to (cond b x.1.1 (samples_at xs r)) ≡ true
    go true e at sat live = first sat live
    go false e (inl same) sat live =
        absurd (let t : nat_eq x.0 r ≡ true = grind (arith, nat_tests) in
        true_not_false (sym t ∙ e))
    go false e (inr d) sat live = later r d sat live

pub asks_the_same : (query : QueryView) (p q : Part) → GrowsTo p q
    → length (asked_points query q) ≤ length (asked_points query p) → AsksTheSame query p q
asks_the_same query [] q g l = record {
  points = nil_of_none (asked_points query q) (omega (arith, l));
  live = λ r c. absurd (none_in_nil r c);
}
asks_the_same query (x ∷ xs) [] g l = absurd g
asks_the_same query (x ∷ xs) (y ∷ ys) g l =
    let more : List (ℤ × ℤ) = g.2.0 in
    let added : Content = points_of_row query x.1.0 more in
    let first = first_length query x y more g.1 g.2.1 in
    let no_less : length (asked_points query xs) ≤ length (asked_points query ys) =
    asks_no_less query xs ys g.3 in
    let few : length added ≡ 0 =
    omega (arith, first, whole_length query x xs, whole_length query y ys) in
    let none : added ≡ [] = nil_of_none added few in
    let ih : AsksTheSame query xs ys =
    asks_the_same query xs ys g.3
    (omega (arith, first, whole_length query x xs, whole_length query y ys)) in
    record {
      points =
          ap (λ (c : Content). c ++ asked_points query ys)
          (first_grown query x y more g.1 g.2.1
          ∙ ap (λ (c : Content). points_of_row query x.1.0 x.1.1 ++ c) none
          ∙ append-nil (points_of_row query x.1.0 x.1.1))
          ∙ ap (λ (c : Content). points_of_row query x.1.0 x.1.1 ++ c) ih.points;
      live = live_of_all query x y xs ys g.0 (first_live query x y more g.2.1 none) ih.live;
    }
