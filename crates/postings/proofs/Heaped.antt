-- Lists in a heap: which stands on top, and what a move of that one does.
use Rattle.std.proofs.Common.{◌≡◌, ℕ, suc, ◌+◌, ◌<◌, ◌≤◌, Bool, true, false, ◌⊎◌, inl, inr, List, [], ◌∷◌, length, map, max, refl, sym, ap, ◌∙◌, subst, arith, Some, None}
use Rattle.std.specs.Prelude.{nat_le, filter, cond, slice_index_or}
use Rattle.std.specs.Ordering.{is_lt, nat_cmp}
use Rattle.std.specs.List.{Contains, AllByRecursion, sum_by}
use Rattle.std.specs.List.Sorted.{IsPermutation, IsStrictlyIncreasing}
use Rattle.std.specs.BinaryHeap.{IsUpperBound}
use Rattle.std.proofs.lemmas.Bool.Decides.{nat_tests}
use Rattle.std.proofs.lemmas.Grind.{common_steps}
use Rattle.std.proofs.lemmas.List.Sorted.{IsPermutation-map, IsPermutation-sym, Contains-permutation, sum_by_popped, sum_by_pushed}
use Rattle.std.proofs.lemmas.Map.Keys.{ge_from_not_lt}
use Rattle.labels.specs.Ascending.{first_of, rest_of, first_or_end, not_below, or_end}
use Rattle.labels.specs.Sets.{union_all}
use Rattle.labels.proofs.Lists.{here, there, not_below-twice, Contains-cases, none_in_nil, below_or_not, or_end-first}
use Rattle.labels.proofs.SetLemmas.{SameMembers, same_lists, union-rises, union-has, union-from, union-not_below, union_first, union_empty, not_below-same, rest-not_below}
use Rattle.postings.specs.Standing.{Begins, earlier, united, left_of, HasMoved}

union_members : (xss yss : List (List ℕ)) → IsPermutation xss yss → (r : ℕ) → Contains (union_all xss) r → Contains (union_all yss) r
union_members xss yss same r h =
    let from = union-from xss r h in
    union-has yss from.0 r (Contains-permutation xss yss from.0 same from.1.0) from.1.1

-- the order of the lists does not matter
pub union_permuted : (xss yss : List (List ℕ)) → IsPermutation xss yss → union_all xss ≡ union_all yss
union_permuted xss yss same = same_lists (union_all xss) (union_all yss) (union-rises xss) (union-rises yss) (record {
  from_left = union_members xss yss same;
  from_right = union_members yss xss (IsPermutation-sym xss yss same);
})

-- a list that begins below the bound is shorter from the bound on
length_not_below : (bound : ℕ) (xs : List ℕ) → length (not_below bound xs) ≤ length xs
length_not_below bound [] = omega arith
length_not_below bound (x ∷ xs) = let rest = length_not_below bound xs in elim (nat_le bound x) as (λ b. length (cond b (x ∷ not_below bound xs) (not_below bound xs)) ≤ suc (length xs)) [ true ↦ omega (arith, rest) | false ↦ omega (arith, rest) ]

first_falls : (bound x : ℕ) (xs : List ℕ) → x < bound → not_below bound (x ∷ xs) ≡ not_below bound xs
first_falls bound x xs lt = let no : nat_le bound x ≡ false = grind (arith, nat_tests) in rw no refl

pub rest_not_below : (bound : ℕ) (xs : List ℕ) → first_or_end xs < bound → bound ≤ 4294967296 → not_below bound (rest_of xs) ≡ not_below bound xs
rest_not_below bound [] lt le = refl
rest_not_below bound (x ∷ xs) lt le = sym (first_falls bound x xs lt)

pub rest_shorter : (bound : ℕ) (xs : List ℕ) → first_or_end xs < bound → bound ≤ 4294967296 → length (rest_of xs) < length xs
rest_shorter bound [] lt le = absurd (omega (arith, lt, le))
rest_shorter bound (x ∷ xs) lt le = omega arith

pub sought_shorter : (bound : ℕ) (xs : List ℕ) → first_or_end xs < bound → bound ≤ 4294967296 → length (not_below bound xs) < length xs
sought_shorter bound [] lt le = absurd (omega (arith, lt, le))
sought_shorter bound (x ∷ xs) lt le = rw (first_falls bound x xs lt) (omega (arith, length_not_below bound xs))

pub sought_same : (bound : ℕ) (xs : List ℕ) → not_below bound (not_below bound xs) ≡ not_below bound xs
sought_same bound xs = not_below-twice bound bound xs ∙ ap (λ b. not_below b xs) (grind arith)

first_is : (xs : List ℕ) → first_or_end xs < 4294967296 → first_of xs ≡ Some (first_or_end xs)
first_is [] lt = absurd (omega arith)
first_is (x ∷ xs) lt = refl

nothing_first : (xs : List ℕ) → first_of xs ≡ None → xs ≡ []
nothing_first [] e = refl
nothing_first (x ∷ xs) e = absurd cc

-- a union that begins at the end has nothing to leave out
pub none_rests : (xss : List (List ℕ)) (first : ℕ) → Begins first (union_all xss) → 4294967296 ≤ first → union_all xss ≡ rest_of (union_all xss)
none_rests xss first b le = let none = nothing_first (union_all xss) (b.none le) in none ∙ sym (ap rest_of none)

-- a union that was moved until it begins past where it began
pub passed_all : (olds news : List (List ℕ)) (first : ℕ) → Begins first (union_all olds) → first < 4294967296
    → not_below (suc first) (union_all news) ≡ not_below (suc first) (union_all olds) → first < first_or_end (union_all news) → union_all news ≡ rest_of (union_all olds)
passed_all olds news first b lt same past =
    sym (not_below-same (union_all news) (suc first) (union-rises news) past)
    ∙ same
    ∙ sym (rest-not_below (union_all olds) first (union-rises olds) (first_is (union_all olds) (omega (arith, lt, b.value)) ∙ ap Some (sym b.value)))

-- a union that was moved until it begins at the target or past it
pub sought_all : (olds news : List (List ℕ)) (target : ℕ)
    → not_below target (union_all news) ≡ not_below target (union_all olds) → target ≤ first_or_end (union_all news) → union_all news ≡ not_below target (union_all olds)
sought_all olds news target same past = sym (not_below-same (union_all news) target (union-rises news) past) ∙ same

module _ {X : Type 0} (f : X → List ℕ) where
  -- one list that was moved among others that were not
  pub one_moved : (bound : ℕ) (old new rest : List X) (before after : X) → IsPermutation old (before ∷ rest) → IsPermutation (after ∷ rest) new
      → not_below bound (f after) ≡ not_below bound (f before) → length (f after) < length (f before) → HasMoved f bound old new
  one_moved bound old new rest before after taken put alike shorter = record {
    same =
        let olds : united f old ≡ union_all (f before ∷ map f rest) = union_permuted (map f old) (map f (before ∷ rest)) (IsPermutation-map f old (before ∷ rest) taken) in
        let news : union_all (f after ∷ map f rest) ≡ united f new = union_permuted (map f (after ∷ rest)) (map f new) (IsPermutation-map f (after ∷ rest) new put) in
        ap (not_below bound) (sym news)
        ∙ sym (union-not_below bound (f after ∷ map f rest))
        ∙ ap (λ ys. union_all (ys ∷ map (not_below bound) (map f rest))) alike
        ∙ union-not_below bound (f before ∷ map f rest)
        ∙ ap (not_below bound) (sym olds);
    fewer =
        let olds = sum_by_popped (λ x. length (f x)) before old rest taken in
        let news = sum_by_pushed (λ x. length (f x)) after rest new put in
        omega (arith, olds, news, shorter);
  }

  -- what a heap lends as its top is in it
  pub top_in : (xs : List X) (n : ℕ) (top : X) → n ≡ length xs → 0 < n → top ≡ slice_index_or xs 0 top → Contains xs top
  top_in xs n top long some is = (0, omega (arith, long, some), sym is)

  mapped : (xs : List X) (x : X) → Contains xs x → Contains (map f xs) (f x)
  mapped [] x c = absurd (none_in_nil x c)
  mapped (y ∷ ys) x c = elim (Contains-cases y ys x c) [
    | inl e ↦ subst (λ (z : X). Contains (map f (y ∷ ys)) (f z)) e (here (f y) (map f ys))
    | inr d ↦ there (f y) (f x) (map f ys) (mapped ys x d)
  ]

  module _ (first : X → ℕ) (begins : (x : X) → Begins (first x) (f x)) where
    not_later : (a b : X) → is_lt (earlier first a b) ≡ false → first_or_end (f a) ≤ first_or_end (f b)
    not_later a b h = let le : first a ≤ first b = ge_from_not_lt (first b) (first a) h in omega (arith, le, (begins a).value, (begins b).value)

    each_later : (top : X) (xs : List X) → IsUpperBound (earlier first) top xs → (ys : List ℕ) → Contains (map f xs) ys
        → (first_or_end (f top) ≤ first_or_end ys) × (4294967296 ≤ first_or_end ys → first_of ys ≡ None)
    each_later top [] h ys c = absurd (none_in_nil ys c)
    each_later top (x ∷ xs) h ys c = elim (Contains-cases (f x) (map f xs) ys c) [
      | inl e ↦ subst (λ (zs : List ℕ). (first_or_end (f top) ≤ first_or_end zs) × (4294967296 ≤ first_or_end zs → first_of zs ≡ None)) e
          (not_later top x h.0, λ le. (begins x).none (omega (arith, le, (begins x).value)))
      | inr d ↦ each_later top xs h.1 ys d
    ]

    rises_each : (xs : List X) → ((x : X) → IsStrictlyIncreasing (f x)) → (ys : List ℕ) → Contains (map f xs) ys → IsStrictlyIncreasing ys
    rises_each [] rises ys c = absurd (none_in_nil ys c)
    rises_each (x ∷ xs) rises ys c = elim (Contains-cases (f x) (map f xs) ys c) [
      | inl e ↦ subst IsStrictlyIncreasing e (rises x)
      | inr d ↦ rises_each xs rises ys d
    ]

    -- all of them begin where the top of the heap does
    pub top_first : (top : X) (xs : List X) → Contains xs top → IsUpperBound (earlier first) top xs → ((x : X) → IsStrictlyIncreasing (f x))
        → first_of (united f xs) ≡ first_of (f top)
    top_first top xs c h rises = elim (below_or_not (first_or_end (f top)) 4294967296) [
      | inl lt ↦
          union_first (map f xs) (first_or_end (f top)) (rises_each xs rises) lt (λ ys d. (each_later top xs h ys d).0) (f top, (mapped xs top c, refl))
          ∙ sym (first_is (f top) lt)
      | inr le ↦
          ap first_of (union_empty (map f xs) (λ ys d. let later = each_later top xs h ys d in later.1 (omega (arith, le, later.0))))
          ∙ sym ((begins top).none (omega (arith, le, (begins top).value)))
    ]

    pub top_begins : (top : X) (xs : List X) → Contains xs top → IsUpperBound (earlier first) top xs → ((x : X) → IsStrictlyIncreasing (f x))
        → Begins (first top) (united f xs)
    top_begins top xs c h rises = record {
      value = (begins top).value ∙ sym (or_end-first (f top)) ∙ ap or_end (sym (top_first top xs c h rises)) ∙ or_end-first (united f xs);
      none = λ le. top_first top xs c h rises ∙ (begins top).none le;
    }

    pub top_below : (top : X) (xs : List X) → Contains xs top → IsUpperBound (earlier first) top xs → ((x : X) → IsStrictlyIncreasing (f x))
        → (bound : ℕ) → first_or_end (united f xs) < bound → first_or_end (f top) < bound
    top_below top xs c h rises bound lt = omega (arith, lt, (top_begins top xs c h rises).value, (begins top).value)
