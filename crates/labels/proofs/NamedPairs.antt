-- Pairs of strings, seen as pairs of bytes, and what a sort by name tells of their names.
use Rattle.std.proofs.Common.{◌≡◌, ◌≢◌, ◌==◌, ℕ, zero, suc, ◌+◌, ◌<◌, ◌≤◌, Bool, true, false, cond, not, ◌||◌, List, [], ◌∷◌, length, get_or, refl, sym, ap, subst, ◌∙◌, arith, string_bytes}
use Rattle.std.specs.Prelude.{map, filter, IsSorted, IsPermutation}
use Rattle.std.specs.declared.string.String.{String}
use Rattle.std.specs.List.{list_any, All, AllByRecursion, IsDistinct}
use Rattle.std.specs.List.Sorted.{IsSortedBy, IsStrictlySortedBy}
use Rattle.std.specs.Str.{bytes_eq}
use Rattle.std.specs.declared.cmp.Ordering.{Ordering}
use Rattle.std.specs.declared.cmp.Ordering.TheVariants.{Less, Equal, Greater}
use Rattle.std.specs.Ordering.{nat_cmp, is_lt, is_eq, ordering_then, ordering_reverse, eq_by_cmp}
use Rattle.std.specs.Cmp.Lexicographic.{slice_cmp}
use Rattle.std.specs.Cmp.{eq_by_cmp_equiv}
use Rattle.std.proofs.lemmas.Cmp.{nat_list_cmp_total, on_total}
use Rattle.std.proofs.lemmas.List.{get_or-map, length-map}
use Rattle.std.proofs.lemmas.List.Sums.{AllPass-from_list_all}
use Rattle.std.proofs.lemmas.List.Kept.{IsStrictlySortedBy-filter}
use Rattle.std.proofs.lemmas.List.Elements.{All-filter, filter_passes}
use Rattle.std.proofs.lemmas.List.Sorted.{All-permutation, IsPermutation-sym, length_permutation}
use Rattle.std.proofs.lemmas.Map.Keys.{IsDistinct-IsPermutation, IsDistinct-from_sorted, sorted_from_all_adjacent, Less-from_sorted}
use Rattle.std.proofs.lemmas.Map.Text.{is_eq-slice_cmp}
use Rattle.labels.specs.Labels.{Labels, pair_cmp, IsByName}
use Rattle.labels.specs.LabelSets.{IsMadeOf, are_named, same_name, repeats, has_value, with_values}
use Rattle.labels.specs.Names.{is_name}
use Rattle.labels.specs.Pairs.{pairs_of}
use Rattle.labels.proofs.Permutations.{IsPermutation-filter}
use Rattle.labels.proofs.Search.{none}
use Rattle.labels.proofs.Values.{value_of-with_values}

-- an order of what a map gives is an order of what it takes
pub IsSortedBy-map : {X Y : Type 0} (f : X → Y) (lt : Y → Y → Bool) (xs : List X) → IsSortedBy (λ a b. lt (f a) (f b)) xs → IsSortedBy lt (map f xs)
IsSortedBy-map f lt [] h = λ k d low inside. absurd (omega (arith, inside))
IsSortedBy-map f lt (x ∷ xs) h = λ k d low inside.
    let fits : k + 1 < length (x ∷ xs) = omega (arith, inside, length-map (x ∷ xs) f) in
    let here : k < length (x ∷ xs) = omega arith in
    rw (get_or-map f (x ∷ xs) (k + 1) x d fits, get_or-map f (x ∷ xs) k x d here) (h k x low fits)

-- filters before and after a map
pub filter-map : {X Y : Type 0} (f : X → Y) (p : Y → Bool) (xs : List X) → map f (filter (λ x. p (f x)) xs) ≡ filter p (map f xs)
filter-map f p [] = refl
filter-map f p (x ∷ xs) =
    elim (p (f x)) as (λ b. map f (cond b (x ∷ filter (λ z. p (f z)) xs) (filter (λ z. p (f z)) xs)) ≡ cond b (f x ∷ filter p (map f xs)) (filter p (map f xs))) [
      | true ↦ ap (λ l. f x ∷ l) (filter-map f p xs)
      | false ↦ filter-map f p xs
    ]

-- two pairs in order whose names differ have their names in strict order
strict : (o rest : Ordering) → is_lt (ordering_then (ordering_reverse o) rest) ≡ false → is_eq o ≡ false → o ≡ Less
strict Less rest h e = refl
strict Equal rest h e = absurd cc
strict Greater rest h e = absurd cc

names_rise : (a b : List ℕ × List ℕ) → is_lt (pair_cmp b a) ≡ false → bytes_eq a.0 b.0 ≡ false → slice_cmp nat_cmp a.0 b.0 ≡ Less
names_rise a b h e =
    strict (slice_cmp nat_cmp a.0 b.0) (slice_cmp nat_cmp b.1 a.1)
    (rw (← nat_list_cmp_total.antisymm b.0 a.0) h)
    (is_eq-slice_cmp a.0 b.0 ∙ e)

pub IsByName-from_sort : (ps : Labels) → IsSorted pair_cmp ps → ((k : ℕ) (d : List ℕ × List ℕ) → k + 1 < length ps → bytes_eq (get_or ps k d).0 (get_or ps (k + 1) d).0 ≡ false) → IsByName ps
IsByName-from_sort ps sorted differ = λ k d inside. names_rise (get_or ps k d) (get_or ps (k + 1) d) (sorted k d (omega arith) inside) (differ k d inside)

-- the names of pairs as keys
abbrev name_cmp : List ℕ × List ℕ → List ℕ × List ℕ → Ordering
name_cmp a b = slice_cmp nat_cmp a.0 b.0

IsStrictlySortedBy-by_name : (ps : Labels) → IsByName ps → IsStrictlySortedBy name_cmp ps
IsStrictlySortedBy-by_name ps h = sorted_from_all_adjacent (on_total (λ (p : List ℕ × List ℕ). p.0) nat_list_cmp_total) ps ([], []) (λ k inside. h k ([], []) inside)

IsByName-sorted : (ps : Labels) → IsStrictlySortedBy name_cmp ps → IsByName ps
IsByName-sorted ps h = λ k d inside. Less-from_sorted name_cmp ps k (k + 1) d h (omega arith) inside

pub IsByName-filter : (p : List ℕ × List ℕ → Bool) (ps : Labels) → IsByName ps → IsByName (filter p ps)
IsByName-filter p ps h = IsByName-sorted (filter p ps) (IsStrictlySortedBy-filter name_cmp p ps (IsStrictlySortedBy-by_name ps h))

neither_first : (a b : Bool) → (a || b) ≡ false → a ≡ false
neither_first true b h = h
neither_first false b h = refl

neither_second : (a b : Bool) → (a || b) ≡ false → b ≡ false
neither_second true b h = absurd cc
neither_second false b h = h

-- a repeat stands where two pairs of one name stand
none_same : (p : List ℕ × List ℕ) (ps : Labels) → AllByRecursion (λ q. same_name p q ≡ false) ps → list_any (same_name p) ps ≡ false
none_same p [] h = refl
none_same p (q ∷ ps) h = rw (h.0, none_same p ps h.1) refl

each_differs : (p : List ℕ × List ℕ) (ps : Labels) → list_any (same_name p) ps ≡ false → AllByRecursion (λ q. same_name p q ≡ false) ps
each_differs p [] h = tt
each_differs p (q ∷ ps) h = (neither_first _ _ h, each_differs p ps (neither_second _ _ h))

repeats-IsDistinct : (ps : Labels) → IsDistinct same_name ps → repeats ps ≡ false
unfolding IsDistinct
repeats-IsDistinct [] h = refl
repeats-IsDistinct (p ∷ ps) h = rw (none_same p ps h.0, repeats-IsDistinct ps h.1) refl

IsDistinct-repeats : (ps : Labels) → repeats ps ≡ false → IsDistinct same_name ps
unfolding IsDistinct
IsDistinct-repeats [] h = tt
IsDistinct-repeats (p ∷ ps) h = (each_differs p ps (neither_first _ _ h), IsDistinct-repeats ps (neither_second _ _ h))

flips : (a b : List ℕ × List ℕ) → same_name a b ≡ same_name b a
flips a b = sym (is_eq-slice_cmp a.0 b.0) ∙ (eq_by_cmp_equiv nat_list_cmp_total).symm a.0 b.0 ∙ is_eq-slice_cmp b.0 a.0

kept_apart : (ps qs : Labels) → IsPermutation ps qs → repeats ps ≡ false → repeats qs ≡ false
kept_apart ps qs h e = repeats-IsDistinct qs (IsDistinct-IsPermutation same_name flips ps qs h (IsDistinct-repeats ps e))

-- whether a name repeats does not hang on the order
pub repeats-IsPermutation : (ps qs : Labels) → IsPermutation ps qs → repeats qs ≡ repeats ps
repeats-IsPermutation ps qs h =
    let go : (a b : Bool) → repeats ps ≡ a → repeats qs ≡ b → b ≡ a = λ a b. elim a as (λ v. repeats ps ≡ v → repeats qs ≡ b → b ≡ v) [
      | false ↦ λ e f. sym f ∙ kept_apart ps qs h e
      | true ↦ elim b as (λ w. repeats ps ≡ true → repeats qs ≡ w → w ≡ true) [
        | true ↦ λ e f. refl
        | false ↦ λ e f. sym (kept_apart qs ps (IsPermutation-sym ps qs h) f) ∙ e
      ]
    ] in
    go (repeats ps) (repeats qs) refl refl

-- two neighbours of one name
or_true : (a b : Bool) → b ≡ true → (a || b) ≡ true
or_true true b h = refl
or_true false b h = h

pub repeats-at : (ps : Labels) (k : ℕ) (d : List ℕ × List ℕ) → k + 1 < length ps → bytes_eq (get_or ps k d).0 (get_or ps (k + 1) d).0 ≡ true → repeats ps ≡ true
repeats-at [] k d inside e = absurd (omega (arith, inside))
repeats-at (p ∷ []) k d inside e = absurd (omega (arith, inside))
repeats-at (p ∷ q ∷ ps) zero d inside e = rw e refl
repeats-at (p ∷ q ∷ ps) (suc k) d inside e =
    or_true (list_any (same_name p) (q ∷ ps)) (repeats (q ∷ ps))
    (repeats-at (q ∷ ps) k d (omega arith) (subst (λ n. bytes_eq (get_or (q ∷ ps) k d).0 (get_or (p ∷ q ∷ ps) n d).0 ≡ true) {x = suc k + 1} {y = suc (k + 1)} (omega arith) e))

-- names in strict order do not repeat
pub repeats-by_name : (ps : Labels) → IsByName ps → repeats ps ≡ false
repeats-by_name ps h =
    let same : eq_by_cmp name_cmp ≡ same_name = λ i p q. is_eq-slice_cmp p.0 q.0 i in
    repeats-IsDistinct ps (subst (λ (e : List ℕ × List ℕ → List ℕ × List ℕ → Bool). IsDistinct e ps) same (IsDistinct-from_sorted name_cmp ps (IsStrictlySortedBy-by_name ps h)))

-- what is left of sorted pairs makes a label set
not_empty : (xs : List ℕ) → not (length xs == 0) ≡ true → xs ≢ []
not_empty [] h = absurd cc
not_empty (x ∷ xs) h = λ e. cc

pub IsMadeOf-with_values : (given sorted kept : Labels) → are_named given ≡ true → IsPermutation given sorted → IsByName sorted → kept ≡ with_values sorted → length kept ≤ 64 → IsMadeOf kept given
IsMadeOf-with_values given sorted kept named same by_name is few =
    let rising : IsByName kept = rw is (IsByName-filter has_value sorted by_name) in
    let kept_pairs : IsPermutation (with_values given) kept = rw is (IsPermutation-filter has_value given sorted same) in
    let once : repeats given ≡ false = sym (repeats-IsPermutation given sorted same) ∙ repeats-by_name sorted by_name in
    let is_named : List ℕ × List ℕ → Type 0 = λ p. is_name p.0 ≡ true in
    let named' : All (λ (p : List ℕ × List ℕ). is_name p.0 ≡ true) given = AllPass-from_list_all (λ p. is_name p.0) given named in
    record {
      label_set = record {
        by_name = rising;
        named = rw is (All-filter has_value is_named sorted (All-permutation is_named given sorted same named'));
        valued = rw is (λ k d inside. not_empty _ (filter_passes has_value sorted k d inside));
        few = few;
      };
      same_pairs = kept_pairs;
      values = λ name. value_of-with_values given kept name once (repeats-by_name kept rising) kept_pairs;
    }

pub length-with_values : (given sorted : Labels) → IsPermutation given sorted → length (with_values sorted) ≡ length (with_values given)
length-with_values given sorted same = length_permutation (with_values given) (with_values sorted) (IsPermutation-filter has_value given sorted same)

-- strings whose value is not empty
pub with_values_of_strings : {Z : Type 0} (ps : List (String Z × String Z)) → pairs_of (filter (λ p. has_value (string_bytes p.0, string_bytes p.1)) ps) ≡ with_values (pairs_of ps)
with_values_of_strings {Z} ps = filter-map (λ (p : String Z × String Z). (string_bytes p.0, string_bytes p.1)) has_value ps

-- the names of two neighbours, as they were compared
pub same_here : (ps : Labels) (k at : ℕ) (a b : List ℕ) (r : Bool) → k + 1 ≡ at → at < length ps → a ≡ (get_or ps k none).0 → b ≡ (get_or ps at none).0 → r ≡ bytes_eq a b → r ≡ true → repeats ps ≡ true
same_here ps k at a b r next inside e f is same =
    repeats-at ps k none (omega (arith, next, inside)) (rw (next, ← e, ← f) (sym is ∙ same))

pub differ_here : (ps : Labels) (k m at : ℕ) (d : List ℕ × List ℕ) (a b : List ℕ) (r : Bool) → m ≡ k → k + 1 ≡ at → a ≡ (get_or ps m d).0 → b ≡ (get_or ps at d).0 → r ≡ bytes_eq a b → r ≡ false → bytes_eq (get_or ps k d).0 (get_or ps (k + 1) d).0 ≡ false
differ_here ps k m at d a b r here next e f is differ = rw (next, ← here, ← e, ← f) (sym is ∙ differ)

pub length-pairs_of : {Z : Type 0} (ps : List (String Z × String Z)) → length (pairs_of ps) ≡ length ps
length-pairs_of {Z} ps = length-map ps (λ (p : String Z × String Z). (string_bytes p.0, string_bytes p.1))
