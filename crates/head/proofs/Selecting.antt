-- What lists of references have in common.
use Rattle.std.proofs.Common.{◌≡◌, ℕ, zero, suc, ◌+◌, ◌-◌, ◌<◌, ◌≤◌, ℤ, Bool, true, false, cond, inl, inr, List, [], ◌∷◌, ◌++◌, length, map, take, drop, None, Some, Option, unwrap_or, append-nil, refl, sym, ◌∙◌, ap, subst, arith}
use Rattle.std.specs.Prelude.{◌&&◌, ◌||◌, ◌==◌, nat_le, nat_eq, filter, slice_index_or}
use Rattle.std.specs.List.{Contains}
use Rattle.std.specs.List.Sorted.{IsStrictlyIncreasing}
use Rattle.std.proofs.lemmas.Bool.Decides.{nat_tests}
use Rattle.std.proofs.lemmas.List.{take_more, take_all}
use Rattle.std.proofs.lemmas.List.Elements.{filter_agree, filter-append}
use Rattle.std.proofs.lemmas.Map.Keys.{below_from_sorted, sorted_from_strictly_increasing}
use Rattle.std.proofs.lemmas.List.Folds.{list_all-append}
use Rattle.std.proofs.lemmas.Map.Views.{any-filter_same}
use Rattle.labels.specs.Ascending.{first_of, rest_of, not_below}
use Rattle.labels.specs.Rows.{Row}
use Rattle.labels.specs.Parts.{Part, references, references_of, references_where, live_references, has_sample}
use Rattle.labels.proofs.Lists.{here, there, rising-head, Contains-cases, none_in_nil, first_in, filter-from, not_below-here}
use Rattle.labels.proofs.Times.{true_not_false}
use Rattle.matchers.specs.Views.{MatcherView}
use Rattle.matchers.specs.Satisfies.{satisfies, satisfies_all}
use Rattle.block.specs.Fewer.{is_among}
use Rattle.head.specs.Removing.{is_struck}
use Rattle.head.proofs.Striking.{AreTold, are_told}

same_of : (x r : ℕ) → (x == r) ≡ true → x ≡ r
same_of x r e = grind (arith, nat_tests)

equal_self : (n : ℕ) → (n == n) ≡ true
equal_self n = grind (arith, nat_tests)

le_true : (r q : ℕ) → r ≤ q → nat_le r q ≡ true
le_true r q h = grind (arith, nat_tests)

of_le : (r q : ℕ) → nat_le r q ≡ true → r ≤ q
of_le r q e = grind (arith, nat_tests)

-- a seek leaves what is not below its target
pub among-not_below : (xs : List ℕ) (r q : ℕ) → r ≤ q → is_among (not_below r xs) q ≡ is_among xs q
among-not_below xs r q h = any-filter_same (λ (x : ℕ). x == q) (λ (x : ℕ). nat_le r x) true (λ x e. ap (nat_le r) (same_of x q e) ∙ le_true r q h) xs

among_in : (xs : List ℕ) (r : ℕ) → Contains xs r → is_among xs r ≡ true
among_in [] r c = absurd (none_in_nil r c)
among_in (x ∷ xs) r c = elim (Contains-cases x xs r c) [
  | inl e ↦ ap (λ b. b || is_among xs r) (subst (λ (n : ℕ). (x == n) ≡ true) e (equal_self x))
  | inr d ↦ go (x == r) (among_in xs r d)
]
  where
    go : (b : Bool) → is_among xs r ≡ true → (b || is_among xs r) ≡ true
    go true e = refl
    go false e = e

in_among : (xs : List ℕ) (r : ℕ) → is_among xs r ≡ true → Contains xs r
in_among [] r e = absurd (true_not_false (sym e))
in_among (x ∷ xs) r e = go (x == r) refl e (in_among xs r)
  where
    go : (b : Bool) → (x == r) ≡ b → (b || is_among xs r) ≡ true → (is_among xs r ≡ true → Contains xs r) → Contains (x ∷ xs) r
    go true q h rest = subst (λ (n : ℕ). Contains (x ∷ xs) n) (same_of x r q) (here x xs)
    go false q h rest = there x r xs (rest h)

missed_by : (xs : List ℕ) (r : ℕ) → (Contains xs r → ⊥) → is_among xs r ≡ false
missed_by xs r missed = go (is_among xs r) refl
  where
    go : (b : Bool) → is_among xs r ≡ b → b ≡ false
    go true e = absurd (missed (in_among xs r e))
    go false e = refl

same_Some : (x y : ℕ) → Some x ≡ Some y → x ≡ y
same_Some x y e = ap (λ (o : Option ℕ). unwrap_or o x) e

not_some : {X : Type 0} (x : X) → None ≡ Some x → ⊥
not_some x e = cc

-- a reference stands in a list exactly where a seek to it stops at it
pub sought : (xs : List ℕ) (r next : ℕ) → IsStrictlyIncreasing xs → first_of (not_below r xs) ≡ Some next → nat_eq next r ≡ is_among xs r
sought xs r next rises first = go (nat_eq next r) refl
  where
    go : (b : Bool) → nat_eq next r ≡ b → b ≡ is_among xs r
    go true e =
        let same : next ≡ r = same_of next r e in
        sym (among_in xs r (filter-from (λ (x : ℕ). nat_le r x) xs r (first_in (not_below r xs) r (first ∙ ap (λ n. Some n) same))).0)
    go false e = sym (missed_by xs r (λ c. true_not_false (sym (ap (λ n. nat_eq n r) (same_Some next r (sym first ∙ not_below-here xs r rises c)) ∙ equal_self r) ∙ e)))

pub sought_none : (xs : List ℕ) (r : ℕ) → IsStrictlyIncreasing xs → first_of (not_below r xs) ≡ None → false ≡ is_among xs r
sought_none xs r rises none = sym (missed_by xs r (λ c. not_some r (sym none ∙ not_below-here xs r rises c)))

-- one reference more, where it stands in a list and where it does not
pub kept_more : (p : ℕ → Bool) (xs : List ℕ) (i x : ℕ) (found more : List ℕ) → i < length xs → x ≡ slice_index_or xs i x → p x ≡ true
    → more ≡ found ++ x ∷ [] → found ≡ filter p (take i xs) → more ≡ filter p (take (i + 1) xs)
kept_more p xs i x found more l is pass e kept =
    e ∙ ap (λ ys. ys ++ x ∷ []) kept
    ∙ sym (ap (filter p) (take_more xs i x l ∙ ap (λ y. take i xs ++ y ∷ []) (sym is)) ∙ filter-append p (take i xs) (x ∷ []) ∙ ap (λ b. filter p (take i xs) ++ cond b (x ∷ []) []) pass)

pub kept_less : (p : ℕ → Bool) (xs : List ℕ) (i x : ℕ) (found : List ℕ) → i < length xs → x ≡ slice_index_or xs i x → p x ≡ false
    → found ≡ filter p (take i xs) → found ≡ filter p (take (i + 1) xs)
kept_less p xs i x found l is fail kept =
    kept
    ∙ sym (ap (filter p) (take_more xs i x l ∙ ap (λ y. take i xs ++ y ∷ []) (sym is)) ∙ filter-append p (take i xs) (x ∷ []) ∙ ap (λ b. filter p (take i xs) ++ cond b (x ∷ []) []) fail ∙ append-nil (filter p (take i xs)))

pub inside_any : (xs : List ℕ) (i d e : ℕ) → i < length xs → slice_index_or xs i d ≡ slice_index_or xs i e
inside_any [] i d e h = absurd (omega (arith, h))
inside_any (x ∷ xs) zero d e h = refl
inside_any (x ∷ xs) (suc i) d e h = inside_any xs i d e (omega (arith, h))

-- later references are not below this one, so a seek to it leaves them
pub later_left : (rs xs : List ℕ) (i k r : ℕ) → IsStrictlyIncreasing rs → i < k → k < length rs → r ≡ slice_index_or rs i r → is_among (not_below r xs) (slice_index_or rs k 0) ≡ is_among xs (slice_index_or rs k 0)
later_left rs xs i k r rises l h is =
    let le : slice_index_or rs i 0 < slice_index_or rs k 0 = below_from_sorted rs i k 0 (sorted_from_strictly_increasing rs rises) l h in
    let same : r ≡ slice_index_or rs i 0 = is ∙ inside_any rs i r 0 (omega (arith, l, h)) in
    among-not_below xs r (slice_index_or rs k 0) (omega (arith, le, same))

-- the references of the rows that pass one test, of those that pass another
pub common_told : (listed : List ℕ) (p q : ℕ × Row → Bool) (part : Part) → AreTold listed p part → filter (is_among listed) (references_of q part) ≡ references_of (λ row. q row && p row) part
common_told listed p q [] told = refl
common_told listed p q (row ∷ rows) told =
    let rest : filter (is_among listed) (references_of q rows) ≡ references_of (λ x. q x && p x) rows = common_told listed p q rows told.1 in
    elim (q row) as (λ b. filter (is_among listed) (map (λ (x : ℕ × Row). x.0) (cond b (row ∷ filter q rows) (filter q rows))) ≡ map (λ (x : ℕ × Row). x.0) (cond (b && p row) (row ∷ filter (λ x. q x && p x) rows) (filter (λ x. q x && p x) rows))) [
      | true ↦ (λ i. cond (told.0 i) (row.0 ∷ rest i) (rest i)) ∙ pulled (p row)
      | false ↦ rest
    ]
  where
    pulled : (b : Bool) → cond b (row.0 ∷ references_of (λ x. q x && p x) rows) (references_of (λ x. q x && p x) rows) ≡ map (λ (x : ℕ × Row). x.0) (cond b (row ∷ filter (λ x. q x && p x) rows) (filter (λ x. q x && p x) rows))
    pulled true = refl
    pulled false = refl

pub common_rows : (p q : ℕ × Row → Bool) (part : Part) → IsStrictlyIncreasing (references part) → filter (is_among (references_of p part)) (references_of q part) ≡ references_of (λ row. q row && p row) part
common_rows p q part rises = common_told (references_of p part) p q part (are_told p part rises)

and_true : (a b : Bool) → (a && (b && true)) ≡ (a && b)
and_true true true = refl
and_true true false = refl
and_true false b = refl

-- one matcher more
pub satisfies_more : (ms : List MatcherView) (m : MatcherView) (part : Part) → IsStrictlyIncreasing (references part)
    → filter (is_among (references_where (λ l. satisfies m l) part)) (references_where (satisfies_all ms) part) ≡ references_where (satisfies_all (ms ++ m ∷ [])) part
satisfies_more ms m part rises =
    common_rows (λ row. satisfies m row.1.0) (λ row. satisfies_all ms row.1.0) part rises
    ∙ ap (λ (rows : Part). references rows) (filter_agree (λ (row : ℕ × Row). satisfies_all ms row.1.0 && satisfies m row.1.0) (λ (row : ℕ × Row). satisfies_all (ms ++ m ∷ []) row.1.0)
    (λ row. sym (list_all-append (λ x. satisfies x row.1.0) ms (m ∷ []) ∙ and_true (satisfies_all ms row.1.0) (satisfies m row.1.0))) part)

-- one matcher alone
pub satisfies_one : (m : MatcherView) (part : Part) → references_where (λ l. satisfies m l) part ≡ references_where (satisfies_all (m ∷ [])) part
satisfies_one m part = ap (λ (rows : Part). references rows) (filter_agree (λ (row : ℕ × Row). satisfies m row.1.0) (λ (row : ℕ × Row). satisfies_all (m ∷ []) row.1.0) (λ row. sym (true_after (satisfies m row.1.0))) part)
  where
    true_after : (b : Bool) → (b && true) ≡ b
    true_after true = refl
    true_after false = refl

-- every series satisfies no matcher at all
pub satisfies_none : (part : Part) → references part ≡ references_where (satisfies_all []) part
satisfies_none [] = refl
satisfies_none (row ∷ rows) = ap (λ rs. row.0 ∷ rs) (satisfies_none rows)

-- the series that a deletion strikes
pub struck_rows : (ms : List MatcherView) (from to : ℤ) (part : Part) → IsStrictlyIncreasing (references part)
    → filter (is_among (live_references from to part)) (references_where (satisfies_all ms) part) ≡ references_of (is_struck ms from to) part
struck_rows ms from to part rises = common_rows (λ row. has_sample from to row.1.1) (λ row. satisfies_all ms row.1.0) part rises

-- what stands after the first two
after_two : {X : Type 0} (a b : X) (others : List X)
    → take (length (a ∷ b ∷ others) - 2) (drop 2 (a ∷ b ∷ others)) ≡ others
after_two a b others =
    let n : length (a ∷ b ∷ others) - 2 ≡ length others = omega arith in
    ap (λ k. take k others) n ∙ take_all (length others) others (omega arith)

-- the first two
pub two_fronts : {X : Type 0} (xs : List X) (a b : X) → 2 ≤ length xs
    → a ≡ slice_index_or xs 0 a → b ≡ slice_index_or xs 1 b → a ∷ b ∷ [] ≡ take 2 xs
two_fronts [] a b long first second = absurd (omega (arith, long))
two_fronts (x ∷ []) a b long first second = absurd (omega (arith, long))
two_fronts (x ∷ y ∷ others) a b long first second = λ i. first i ∷ second i ∷ []

-- the first two, and one more of those after them
pub fronts_more : {X : Type 0} (xs : List X) (m : X) (i : ℕ) → 2 ≤ length xs
    → i < length (take (length xs - 2) (drop 2 xs))
    → m ≡ slice_index_or (take (length xs - 2) (drop 2 xs)) i m
    → take (i + 2) xs ++ m ∷ [] ≡ take (i + 1 + 2) xs
fronts_more [] m i long l is = absurd (omega (arith, long))
fronts_more (x ∷ []) m i long l is = absurd (omega (arith, long))
fronts_more {X} (x ∷ y ∷ others) m i long l is =
    let whole = after_two x y others in
    let inside : i < length others = subst (λ (zs : List X). i < length zs) whole l in
    let at : m ≡ slice_index_or others i m =
    subst (λ (zs : List X). m ≡ slice_index_or zs i m) whole is in
    let a : i + 2 ≡ suc (suc i) = omega arith in
    let b : suc (suc (i + 1)) ≡ i + 1 + 2 = omega arith in
    ap (λ n. take n (x ∷ y ∷ others) ++ m ∷ []) a
    ∙ ap (λ zs. x ∷ y ∷ zs)
    (sym (take_more others i m inside ∙ ap (λ z. take i others ++ z ∷ []) (sym at)))
    ∙ ap (λ n. take n (x ∷ y ∷ others)) b

pub empty_of : {X : Type 0} (xs : List X) → length xs < 1 → xs ≡ []
empty_of [] e = refl
empty_of (x ∷ xs) e = absurd (omega (arith, e))

none_first : (xs : List ℕ) → first_of xs ≡ None → xs ≡ []
none_first [] e = refl
none_first (x ∷ xs) e = absurd (not_some x (sym e))

-- none of an ascending list is below its first
from_first : (xs : List ℕ) (n x : ℕ) → IsStrictlyIncreasing xs → first_of xs ≡ Some n
    → Contains xs x → n ≤ x
from_first [] n x rises e c = absurd (none_in_nil x c)
from_first (y ∷ ys) n x rises e c =
    let same : y ≡ n = same_Some y n e in
    elim (Contains-cases y ys x c) [
      | inl here ↦ omega (arith, same, here)
      | inr later ↦
          let above : y < x = rising-head y ys rises x later in
          omega (arith, same, above)
    ]

-- what stands from a reference on, a list has from there on
both_later : (xs ys : List ℕ) (r : ℕ) → ((x : ℕ) → Contains xs x → r ≤ x)
    → filter (is_among ys) xs ≡ filter (is_among (not_below r ys)) xs
both_later [] ys r above = refl
both_later (x ∷ xs) ys r above =
    let rest = both_later xs ys r (λ y c. above y (there x y xs c)) in
    let same = sym (among-not_below ys r x (above x (here x xs))) in
    λ i. cond (same i) (x ∷ rest i) (rest i)

-- what a list has is not below its first
both_from : (xs ys : List ℕ) (n : ℕ) → ((y : ℕ) → Contains ys y → n ≤ y)
    → filter (is_among ys) xs ≡ filter (is_among ys) (not_below n xs)
both_from [] ys n above = refl
both_from (x ∷ xs) ys n above =
    let rest : filter (is_among ys) xs ≡ filter (is_among ys) (not_below n xs) =
    both_from xs ys n above in
    elim (nat_le n x) as (λ b. nat_le n x ≡ b → filter (is_among ys) (x ∷ xs)
    ≡ filter (is_among ys) (cond b (x ∷ not_below n xs) (not_below n xs))) [
      | true ↦ λ e. ap (λ (zs : List ℕ). cond (is_among ys x) (x ∷ zs) zs) rest
      | false ↦ λ e.
          ap (λ b. cond b (x ∷ filter (is_among ys) xs) (filter (is_among ys) xs))
          (missed_by ys x (λ c. true_not_false (sym (le_true n x (above x c)) ∙ e)))
          ∙ rest
    ] refl

none_among_none : (xs : List ℕ) → filter (is_among []) xs ≡ []
none_among_none [] = refl
none_among_none (x ∷ xs) = none_among_none xs

first_kept : (p : ℕ → Bool) (xs : List ℕ) (r : ℕ) → first_of xs ≡ Some r → p r ≡ true
    → filter p xs ≡ r ∷ filter p (rest_of xs)
first_kept p [] r e pass = absurd (not_some r e)
first_kept p (x ∷ xs) r e pass =
    let same : x ≡ r = same_Some x r e in
    ap (λ b. cond b (x ∷ filter p xs) (filter p xs)) (ap p same ∙ pass)
    ∙ ap (λ y. y ∷ filter p xs) same

-- two ascending lists, of which the second was sought to the first of the other
module _ (xs ys zs : List ℕ) (r : ℕ) (rises : IsStrictlyIncreasing xs)
    (first : first_of xs ≡ Some r) (moved : zs ≡ not_below r ys) where
  met_later : filter (is_among ys) xs ≡ filter (is_among zs) xs
  met_later =
      both_later xs ys r (λ x c. from_first xs r x rises first c)
      ∙ ap (λ (ws : List ℕ). filter (is_among ws) xs) (sym moved)

  -- it has ended
  pub met_end : first_of zs ≡ None → filter (is_among ys) xs ≡ []
  met_end none =
      met_later ∙ ap (λ (ws : List ℕ). filter (is_among ws) xs) (none_first zs none)
      ∙ none_among_none xs

  -- it stands at a reference
  pub met_past : (next : ℕ) → IsStrictlyIncreasing zs → first_of zs ≡ Some next
      → filter (is_among ys) xs ≡ filter (is_among zs) (not_below next xs)
  met_past next up at = met_later ∙ both_from xs zs next (λ y c. from_first zs next y up at c)

  -- it stands at the same one
  pub met_here : first_of zs ≡ Some r
      → filter (is_among ys) xs ≡ r ∷ filter (is_among zs) (rest_of xs)
  met_here at =
      met_later ∙ first_kept (is_among zs) xs r first (among_in zs r (first_in zs r at))

  -- not below
  pub met_above : (next : ℕ) → first_of zs ≡ Some next → r ≤ next
  met_above next at =
      of_le r next (filter-from (λ (x : ℕ). nat_le r x) ys next
      (subst (λ (ws : List ℕ). Contains ws next) moved (first_in zs next at))).1

few_kept : (p : ℕ → Bool) (xs : List ℕ) → length (filter p xs) ≤ length xs
few_kept p [] = omega arith
few_kept p (x ∷ xs) =
    let rest = few_kept p xs in
    elim (p x) as (λ b. length (cond b (x ∷ filter p xs) (filter p xs)) ≤ suc (length xs)) [
      | true ↦ omega (arith, rest)
      | false ↦ omega (arith, rest)
    ]

-- a seek past the first leaves fewer
pub past_less : (xs : List ℕ) (r next : ℕ) → first_of xs ≡ Some r → r < next
    → length (not_below next xs) < length xs
past_less [] r next e less = absurd (not_some r e)
past_less (x ∷ xs) r next e less =
    let same : x ≡ r = same_Some x r e in
    let few = few_kept (λ (y : ℕ). nat_le next y) xs in
    elim (nat_le next x) as (λ b. nat_le next x ≡ b
    → length (cond b (x ∷ not_below next xs) (not_below next xs)) < suc (length xs)) [
      | true ↦ λ at.
          let below : next ≤ x = of_le next x at in
          absurd (omega (arith, below, same, less))
      | false ↦ λ at. omega (arith, few)
    ] refl

pub beyond : (r n : ℕ) → r ≤ n → (r ≡ n → ⊥) → r < n
beyond r n le other = grind arith
