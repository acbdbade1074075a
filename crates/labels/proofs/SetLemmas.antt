-- lists seen as sets: two ascending lists with the same members are one
use Rattle.std.proofs.Common.{◌≡◌, ℕ, zero, suc, ◌<◌, ◌≤◌, ◌≢◌, Bool, true, false, not, cond, ◌&&◌, ◌⊎◌, inl, inr, List, [], ◌∷◌, ◌++◌, length, get_or, map, refl, sym, ◌∙◌, ap, subst, arith}
use Rattle.std.specs.List.{filter, Contains}
use Rattle.std.specs.List.Sorted.{IsStrictlyIncreasing}
use Rattle.std.specs.Prelude.{nat_le, nat_lt, nat_eq, None, Some}
use Rattle.std.proofs.lemmas.Bool.Decides.{nat_tests}
use Rattle.labels.specs.Ascending.{first_of, rest_of, not_below, first_or_end, or_end}
use Rattle.std.proofs.Common.{take, drop}
use Rattle.std.proofs.lemmas.Grind.{common_steps}
use Rattle.labels.proofs.Lists.{here, there, Contains-cases, none_in_nil, rising-tail, rising-head, rising-cons, filter-has, filter-from, filter-all, filter-same, filter-filter, rising-filter, first-least, or_end-first, not_below-here}
use Rattle.labels.specs.Sets.{insert_ref, insert_each, union_all, has, difference}

pub record SameMembers (xs ys : List ℕ) : Type 0 where
  pub from_left : (r : ℕ) → Contains xs r → Contains ys r
  pub from_right : (r : ℕ) → Contains ys r → Contains xs r

-- two ascending lists with the same members are one
pub same_lists : (xs ys : List ℕ) → IsStrictlyIncreasing xs → IsStrictlyIncreasing ys → SameMembers xs ys → xs ≡ ys
same_lists [] [] hx hy s = refl
same_lists [] (y ∷ ys) hx hy s = absurd (none_in_nil y (s.from_right y (here y ys)))
same_lists (x ∷ xs) [] hx hy s = absurd (none_in_nil x (s.from_left x (here x xs)))
same_lists (x ∷ xs) (y ∷ ys) hx hy s =
    let xy : y ≤ x = first-least (y ∷ ys) x hy (s.from_left x (here x xs)) in
    let yx : x ≤ y = first-least (x ∷ xs) y hx (s.from_right y (here y ys)) in
    let same : x ≡ y = omega arith in
    let rest : SameMembers xs ys = record {
      from_left = λ r c.
          let lt : x < r = rising-head x xs hx r c in
          elim (Contains-cases y ys r (s.from_left r (there x r xs c))) [ inl e ↦ absurd (omega arith) | inr d ↦ d ];
      from_right = λ r c.
          let lt : y < r = rising-head y ys hy r c in
          elim (Contains-cases x xs r (s.from_right r (there y r ys c))) [ inl e ↦ absurd (omega arith) | inr d ↦ d ];
    } in
    let tails : xs ≡ ys = same_lists xs ys (rising-tail x xs hx) (rising-tail y ys hy) rest in
    cc

three_ways : (r x : ℕ) → (r < x) ⊎ ((r ≡ x) ⊎ (x < r))
three_ways r x = grind arith

insert-is : (r x : ℕ) (xs : List ℕ) → (insert_ref r (x ∷ xs) ≡ r ∷ x ∷ xs) × (r < x) ⊎ ((insert_ref r (x ∷ xs) ≡ x ∷ xs) × (r ≡ x) ⊎ (insert_ref r (x ∷ xs) ≡ x ∷ insert_ref r xs) × (x < r))
insert-is r x xs = elim (three_ways r x) [
  | inl l ↦ inl (let t : nat_lt r x ≡ true = grind (arith, nat_tests) in rw t, l)
  | inr m ↦ elim m [
    | inl e ↦ inr (inl (let t : nat_lt r x ≡ false = grind (arith, nat_tests) in let u : nat_eq r x ≡ true = grind (arith, nat_tests) in rw (t, u), e))
    | inr l ↦ inr (inr (let t : nat_lt r x ≡ false = grind (arith, nat_tests) in let u : nat_eq r x ≡ false = grind (arith, nat_tests) in rw (t, u), l))
  ]
]

pub insert-has_new : (r : ℕ) (xs : List ℕ) → Contains (insert_ref r xs) r
insert-has_new r [] = here r []
insert-has_new r (x ∷ xs) = elim (insert-is r x xs) [
  | inl e ↦ subst (λ (ys : List ℕ). Contains ys r) (sym e.0) (here r (x ∷ xs))
  | inr m ↦ elim m [
    | inl e ↦ subst (λ (ys : List ℕ). Contains ys r) (sym e.0) (subst (λ (z : ℕ). Contains (x ∷ xs) z) (sym e.1) (here x xs))
    | inr e ↦ subst (λ (ys : List ℕ). Contains ys r) (sym e.0) (there x r (insert_ref r xs) (insert-has_new r xs))
  ]
]

pub insert-has_old : (r s : ℕ) (xs : List ℕ) → Contains xs s → Contains (insert_ref r xs) s
insert-has_old r s [] c = absurd (none_in_nil s c)
insert-has_old r s (x ∷ xs) c = elim (insert-is r x xs) [
  | inl e ↦ subst (λ (ys : List ℕ). Contains ys s) (sym e.0) (there r s (x ∷ xs) c)
  | inr m ↦ elim m [
    | inl e ↦ subst (λ (ys : List ℕ). Contains ys s) (sym e.0) c
    | inr e ↦ subst (λ (ys : List ℕ). Contains ys s) (sym e.0) (elim (Contains-cases x xs s c) [
      | inl q ↦ subst (λ (z : ℕ). Contains (x ∷ insert_ref r xs) z) q (here x (insert_ref r xs))
      | inr d ↦ there x s (insert_ref r xs) (insert-has_old r s xs d)
    ])
  ]
]

pub insert-from : (r s : ℕ) (xs : List ℕ) → Contains (insert_ref r xs) s → (r ≡ s) ⊎ Contains xs s
insert-from r s [] c = Contains-cases r [] s c
insert-from r s (x ∷ xs) c = elim (insert-is r x xs) [
  | inl e ↦ Contains-cases r (x ∷ xs) s (subst (λ (ys : List ℕ). Contains ys s) e.0 c)
  | inr m ↦ elim m [
    | inl e ↦ inr (subst (λ (ys : List ℕ). Contains ys s) e.0 c)
    | inr e ↦ elim (Contains-cases x (insert_ref r xs) s (subst (λ (ys : List ℕ). Contains ys s) e.0 c)) [
      | inl q ↦ inr (subst (λ (z : ℕ). Contains (x ∷ xs) z) q (here x xs))
      | inr d ↦ elim (insert-from r s xs d) [ inl q ↦ inl q | inr k ↦ inr (there x s xs k) ]
    ]
  ]
]

pub insert-rises : (r : ℕ) (xs : List ℕ) → IsStrictlyIncreasing xs → IsStrictlyIncreasing (insert_ref r xs)
insert-rises r [] h = λ k l. absurd (omega (arith, l))
insert-rises r (x ∷ xs) h = elim (insert-is r x xs) [
  | inl e ↦ subst IsStrictlyIncreasing (sym e.0) (rising-cons r (x ∷ xs) (λ s c. let l : x ≤ s = first-least (x ∷ xs) s h c in omega (arith, e.1)) h)
  | inr m ↦ elim m [
    | inl e ↦ subst IsStrictlyIncreasing (sym e.0) h
    | inr e ↦ subst IsStrictlyIncreasing (sym e.0) (rising-cons x (insert_ref r xs)
        (λ s c. elim (insert-from r s xs c) [ inl q ↦ omega (arith, e.1) | inr d ↦ rising-head x xs h s d ])
        (insert-rises r xs (rising-tail x xs h)))
  ]
]

pub each-has_left : (xs ys : List ℕ) (r : ℕ) → Contains xs r → Contains (insert_each xs ys) r
each-has_left [] ys r c = absurd (none_in_nil r c)
each-has_left (x ∷ xs) ys r c = elim (Contains-cases x xs r c) [
  | inl e ↦ subst (λ (z : ℕ). Contains (insert_ref x (insert_each xs ys)) z) e (insert-has_new x (insert_each xs ys))
  | inr d ↦ insert-has_old x r (insert_each xs ys) (each-has_left xs ys r d)
]

pub each-has_right : (xs ys : List ℕ) (r : ℕ) → Contains ys r → Contains (insert_each xs ys) r
each-has_right [] ys r c = c
each-has_right (x ∷ xs) ys r c = insert-has_old x r (insert_each xs ys) (each-has_right xs ys r c)

pub each-from : (xs ys : List ℕ) (r : ℕ) → Contains (insert_each xs ys) r → Contains xs r ⊎ Contains ys r
each-from [] ys r c = inr c
each-from (x ∷ xs) ys r c = elim (insert-from x r (insert_each xs ys) c) [
  | inl e ↦ inl (subst (λ (z : ℕ). Contains (x ∷ xs) z) e (here x xs))
  | inr d ↦ elim (each-from xs ys r d) [ inl k ↦ inl (there x r xs k) | inr k ↦ inr k ]
]

each-rises : (xs ys : List ℕ) → IsStrictlyIncreasing ys → IsStrictlyIncreasing (insert_each xs ys)
each-rises [] ys h = h
each-rises (x ∷ xs) ys h = insert-rises x (insert_each xs ys) (each-rises xs ys h)

pub union-rises : (xss : List (List ℕ)) → IsStrictlyIncreasing (union_all xss)
union-rises [] = λ k l. absurd (omega (arith, l))
union-rises (xs ∷ xss) = each-rises xs (union_all xss) (union-rises xss)

pub union-has : (xss : List (List ℕ)) (xs : List ℕ) (r : ℕ) → Contains xss xs → Contains xs r → Contains (union_all xss) r
union-has [] xs r c d = absurd (none_in_nil xs c)
union-has (ys ∷ yss) xs r c d = elim (Contains-cases ys yss xs c) [
  | inl e ↦ each-has_left ys (union_all yss) r (subst (λ (zs : List ℕ). Contains zs r) (sym e) d)
  | inr m ↦ each-has_right ys (union_all yss) r (union-has yss xs r m d)
]

pub union-from : (xss : List (List ℕ)) (r : ℕ) → Contains (union_all xss) r → (xs : List ℕ) × (Contains xss xs × Contains xs r)
union-from [] r c = absurd (none_in_nil r c)
union-from (ys ∷ yss) r c = elim (each-from ys (union_all yss) r c) [
  | inl d ↦ (ys, (here ys yss, d))
  | inr d ↦ let k : (xs : List ℕ) × (Contains yss xs × Contains xs r) = union-from yss r d in (k.0, (there ys k.0 yss k.1.0, k.1.1))
]

le_test : (r s : ℕ) → r ≤ s → nat_le r s ≡ true
le_test r s h = grind (arith, nat_tests)

-- a union of lists that are moved is the union, moved
pub union-not_below : (t : ℕ) (xss : List (List ℕ)) → union_all (map (not_below t) xss) ≡ not_below t (union_all xss)
union-not_below t xss =
    same_lists (union_all (map (not_below t) xss)) (not_below t (union_all xss)) (union-rises (map (not_below t) xss))
    (rising-filter (λ r. nat_le t r) (union_all xss) (union-rises xss))
    (record {
      from_left = λ r c. left t xss r c;
      from_right = λ r c.
          let k : Contains (union_all xss) r × (nat_le t r ≡ true) = filter-from (λ x. nat_le t x) (union_all xss) r c in
          let m : (xs : List ℕ) × (Contains xss xs × Contains xs r) = union-from xss r k.0 in
          union-has (map (not_below t) xss) (not_below t m.0) r (map-has (not_below t) xss m.0 m.1.0) (filter-has (λ x. nat_le t x) m.0 r m.1.1 k.1);
    })
  where
    map-has : {X Y : Type 0} (f : X → Y) (xs : List X) (x : X) → Contains xs x → Contains (map f xs) (f x)
    map-has f [] x h = absurd (none_in_nil x h)
    map-has {X} {Y} f (y ∷ ys) x h = elim (Contains-cases y ys x h) [
      | inl e ↦ subst (λ (z : Y). Contains (f y ∷ map f ys) z) (ap f e) (here (f y) (map f ys))
      | inr d ↦ there (f y) (f x) (map f ys) (map-has f ys x d)
    ]

    left : (t : ℕ) (xss : List (List ℕ)) (r : ℕ) → Contains (union_all (map (not_below t) xss)) r → Contains (not_below t (union_all xss)) r
    left t [] r c = absurd (none_in_nil r c)
    left t (xs ∷ xss) r c = elim (each-from (not_below t xs) (union_all (map (not_below t) xss)) r c) [
      | inl d ↦
          let k : Contains xs r × (nat_le t r ≡ true) = filter-from (λ x. nat_le t x) xs r d in
          filter-has (λ x. nat_le t x) (union_all (xs ∷ xss)) r (each-has_left xs (union_all xss) r k.0) k.1
      | inr d ↦
          let ih : Contains (not_below t (union_all xss)) r = left t xss r d in
          let k : Contains (union_all xss) r × (nat_le t r ≡ true) = filter-from (λ x. nat_le t x) (union_all xss) r ih in
          filter-has (λ x. nat_le t x) (union_all (xs ∷ xss)) r (each-has_right xs (union_all xss) r k.0) k.1
    ]

-- the list less its first is what is past the first
pub rest-not_below : (xs : List ℕ) (r : ℕ) → IsStrictlyIncreasing xs → first_of xs ≡ Some r → rest_of xs ≡ not_below (suc r) xs
rest-not_below [] r h e = refl
rest-not_below (x ∷ xs) r h e =
    let same : x ≡ r = cc in
    let t : nat_le (suc r) x ≡ false = grind (arith, nat_tests) in
    let all : filter (λ s. nat_le (suc r) s) xs ≡ xs = filter-all (λ s. nat_le (suc r) s) xs (λ s c. let l : x < s = rising-head x xs h s c in le_test (suc r) s (omega arith)) in
    sym (rw (t, all))

pub not_below-same : (xs : List ℕ) (t : ℕ) → IsStrictlyIncreasing xs → t ≤ first_or_end xs → not_below t xs ≡ xs
not_below-same xs t h l = filter-all (λ s. nat_le t s) xs (λ s c. let m : first_or_end xs ≤ s = first-least xs s h c in le_test t s (omega arith))

-- facts of each element of a list are facts of each image
pub map_each : {X : Type 0} (f : X → List ℕ) (items : List X) (Q : List ℕ → Type 0) → ((k : ℕ) (d : X) → k < length items → Q (f (get_or items k d)))
    → (xs : List ℕ) → Contains (map f items) xs → Q xs
map_each f [] Q h xs c = absurd (none_in_nil xs c)
map_each f (i ∷ is) Q h xs c = elim (Contains-cases (f i) (map f is) xs c) [
  | inl e ↦ subst Q e (h 0 i (omega arith))
  | inr m ↦ map_each f is Q (λ k d l. h (suc k) d (omega (arith, l))) xs m
]

pub map_some : {X : Type 0} (f : X → List ℕ) (items : List X) (Q : List ℕ → Type 0) (k : ℕ) → k < length items → ((d : X) → Q (f (get_or items k d)))
    → (xs : List ℕ) × (Contains (map f items) xs × Q xs)
map_some f [] Q k l h = absurd (omega (arith, l))
map_some f (i ∷ is) Q zero l h = (f i, (here (f i) (map f is), h i))
map_some f (i ∷ is) Q (suc k) l h =
    let m : (xs : List ℕ) × (Contains (map f is) xs × Q xs) = map_some f is Q k (omega (arith, l)) h in
    (m.0, (there (f i) m.0 (map f is) m.1.0, m.1.1))

pub map_moved : {X : Type 0} (f : X → List ℕ) (g : List ℕ → List ℕ) (olds news : List X) → length news ≡ length olds
    → ((k : ℕ) (d : X) → k < length olds → f (get_or news k d) ≡ g (f (get_or olds k d))) → map f news ≡ map g (map f olds)
map_moved f g [] [] e h = refl
map_moved f g [] (n ∷ ns) e h = absurd (omega (arith, e))
map_moved f g (o ∷ os) [] e h = absurd (omega (arith, e))
map_moved f g (o ∷ os) (n ∷ ns) e h =
    let first : f n ≡ g (f o) = h 0 n (omega arith) in
    let rest : map f ns ≡ map g (map f os) = map_moved f g os ns (omega (arith, e)) (λ k d l. h (suc k) d (omega (arith, l))) in
    cc

first_from_least : (xs : List ℕ) (m : ℕ) → IsStrictlyIncreasing xs → Contains xs m → ((r : ℕ) → Contains xs r → m ≤ r) → first_of xs ≡ Some m
first_from_least [] m h c low = absurd (none_in_nil m c)
first_from_least (x ∷ xs) m h c low =
    let up : x ≤ m = first-least (x ∷ xs) m h c in
    let down : m ≤ x = low x (here x xs) in
    let same : x ≡ m = omega arith in
    ap Some same

first_in : (xs : List ℕ) → first_or_end xs < 4294967296 → Contains xs (first_or_end xs)
first_in [] h = absurd (omega arith)
first_in (x ∷ xs) h = here x xs

-- the union begins where the first of the lists does
pub union_first : (xss : List (List ℕ)) (m : ℕ) → ((xs : List ℕ) → Contains xss xs → IsStrictlyIncreasing xs) → m < 4294967296
    → ((xs : List ℕ) → Contains xss xs → m ≤ first_or_end xs) → (xs : List ℕ) × (Contains xss xs × (first_or_end xs ≡ m)) → first_of (union_all xss) ≡ Some m
union_first xss m rising lt low found =
    first_from_least (union_all xss) m (union-rises xss)
    (union-has xss found.0 m found.1.0 (subst (λ (z : ℕ). Contains found.0 z) found.1.1 (first_in found.0 (omega (arith, found.1.1)))))
    (λ r c.
    let k : (xs : List ℕ) × (Contains xss xs × Contains xs r) = union-from xss r c in
    let l : first_or_end k.0 ≤ r = first-least k.0 r (rising k.0 k.1.0) k.1.1 in
    omega (arith, low k.0 k.1.0))

pub union_empty : (xss : List (List ℕ)) → ((xs : List ℕ) → Contains xss xs → first_of xs ≡ None) → union_all xss ≡ []
union_empty [] h = refl
union_empty ([] ∷ xss) h = union_empty xss (λ xs c. h xs (there [] xs xss c))
union_empty ((x ∷ xs) ∷ xss) h = absurd (let e : Some x ≡ None = h (x ∷ xs) (here (x ∷ xs) xss) in cc)

-- one list passes the number m, which none begins below
pub passed : (xs : List ℕ) (m : ℕ) → IsStrictlyIncreasing xs → first_or_end xs ≡ m → m < 4294967296 → rest_of xs ≡ not_below (suc m) xs
passed [] m h e l = refl
passed (x ∷ xs) m h e l = rest-not_below (x ∷ xs) m h (ap Some e)

pub not_passed : (xs : List ℕ) (m : ℕ) → IsStrictlyIncreasing xs → m ≤ first_or_end xs → first_or_end xs ≢ m → xs ≡ not_below (suc m) xs
not_passed xs m h l n = let lt : suc m ≤ first_or_end xs = omega arith in sym (not_below-same xs (suc m) h lt)

pub written_back : {X : Type 0} (news olds : List X) (n : ℕ) → length news ≡ length olds → n ≡ length olds → take n (news ++ drop (length news) olds) ≡ news
written_back news olds n e f = grind (arith, common_steps)

pub has-true : (ys : List ℕ) (r : ℕ) → has ys r ≡ true → Contains ys r
has-true [] r h = cc
has-true (y ∷ ys) r h = elim (three_ways y r) [
  | inl l ↦ (let t : nat_eq y r ≡ false = grind (arith, nat_tests) in there y r ys (has-true ys r (rw t at h)))
  | inr m ↦ elim m [
    | inl e ↦ subst (λ (z : ℕ). Contains (y ∷ ys) z) e (here y ys)
    | inr l ↦ (let t : nat_eq y r ≡ false = grind (arith, nat_tests) in there y r ys (has-true ys r (rw t at h)))
  ]
]

pub Contains-has : (ys : List ℕ) (r : ℕ) → Contains ys r → has ys r ≡ true
Contains-has [] r c = absurd (none_in_nil r c)
Contains-has (y ∷ ys) r c = elim (Contains-cases y ys r c) [
  | inl e ↦ (let t : nat_eq y r ≡ true = grind (arith, nat_tests) in rw t)
  | inr d ↦ (let ih : has ys r ≡ true = Contains-has ys r d in kept (nat_eq y r) (has ys r) ih)
]
  where
    kept : (b h : Bool) → h ≡ true → cond b true h ≡ true
    kept true h e = refl
    kept false h e = e

pub not_in-has : (ys : List ℕ) (r : ℕ) → (Contains ys r → ⊥) → has ys r ≡ false
not_in-has ys r n = go (has ys r) refl
  where
    go : (b : Bool) → has ys r ≡ b → has ys r ≡ false
    go true e = absurd (n (has-true ys r e))
    go false e = e

-- DIFFERENCES

at_least : (xs : List ℕ) (r x : ℕ) → IsStrictlyIncreasing xs → first_of xs ≡ Some r → Contains xs x → r ≤ x
at_least [] r x h e c = absurd (none_in_nil x c)
at_least (y ∷ ys) r x h e c = let same : y ≡ r = cc in let l : y ≤ x = first-least (y ∷ ys) x h c in omega arith

same_has : (ys zs : List ℕ) (x : ℕ) → (Contains ys x → Contains zs x) → (Contains zs x → Contains ys x) → has ys x ≡ has zs x
same_has ys zs x f g = go (has zs x) refl
  where
    go : (b : Bool) → has zs x ≡ b → has ys x ≡ has zs x
    go true e = Contains-has ys x (g (has-true zs x e)) ∙ sym e
    go false e = not_in-has ys x (λ c. let t : has zs x ≡ true = Contains-has zs x (f c) in cc) ∙ sym e

-- the second list moved to where the first begins
pub difference_sought : (xs ys : List ℕ) (r : ℕ) → IsStrictlyIncreasing xs → first_of xs ≡ Some r → difference xs (not_below r ys) ≡ difference xs ys
difference_sought xs ys r h e =
    filter-same (λ x. not (has (not_below r ys) x)) (λ x. not (has ys x)) xs (λ x c.
    let l : r ≤ x = at_least xs r x h e c in
    ap not (same_has (not_below r ys) ys x
    (λ d. (filter-from (λ z. nat_le r z) ys x d).0)
    (λ d. filter-has (λ z. nat_le r z) ys x d (le_test r x l))))

-- the first list past a member of the second
pub difference_rest : (xs ys : List ℕ) (r : ℕ) → first_of xs ≡ Some r → Contains ys r → difference (rest_of xs) ys ≡ difference xs ys
difference_rest [] ys r e c = refl
difference_rest (x ∷ xs) ys r e c =
    let same : x ≡ r = cc in
    let t : has ys x ≡ true = ap (has ys) same ∙ Contains-has ys r c in
    sym (rw t)

-- where the second list, moved to r, does not begin with r, it has no r
pub not_begun : (ys : List ℕ) (r : ℕ) → IsStrictlyIncreasing ys → first_or_end (not_below r ys) ≢ r → Contains (not_below r ys) r → ⊥
not_begun ys r h n c =
    let k : Contains ys r × (nat_le r r ≡ true) = filter-from (λ z. nat_le r z) ys r c in
    n (sym (or_end-first (not_below r ys)) ∙ ap or_end (not_below-here ys r h k.0))

pub begun : (ys : List ℕ) (r : ℕ) → first_or_end ys ≡ r → r < 4294967296 → Contains ys r
begun ys r e l = subst (λ (z : ℕ). Contains ys z) e (first_in ys (omega (arith, e, l)))

-- where the first list begins outside the second
pub difference_first : (xs ys : List ℕ) → ((r : ℕ) → first_of xs ≡ Some r → Contains ys r → ⊥) → first_of xs ≡ first_of (difference xs ys)
difference_first [] ys n = refl
difference_first (x ∷ xs) ys n =
    let t : has ys x ≡ false = not_in-has ys x (n x refl) in
    rw t

pub difference_past : (xs ys : List ℕ) → ((r : ℕ) → first_of xs ≡ Some r → Contains ys r → ⊥) → difference (rest_of xs) ys ≡ rest_of (difference xs ys)
difference_past [] ys n = refl
difference_past (x ∷ xs) ys n =
    let t : has ys x ≡ false = not_in-has ys x (n x refl) in
    rw t

pub difference_moved : (xs ys : List ℕ) (t : ℕ) → difference (not_below t xs) ys ≡ not_below t (difference xs ys)
difference_moved xs ys t =
    filter-filter (λ x. not (has ys x)) (λ x. nat_le t x) xs
    ∙ filter-same (λ x. not (has ys x) && nat_le t x) (λ x. nat_le t x && not (has ys x)) xs (λ x _. and_swap (not (has ys x)) (nat_le t x))
    ∙ sym (filter-filter (λ x. nat_le t x) (λ x. not (has ys x)) xs)
  where
    and_swap : (a b : Bool) → (a && b) ≡ (b && a)
    and_swap true true = refl
    and_swap true false = refl
    and_swap false true = refl
    and_swap false false = refl

pub difference-rises : (xs ys : List ℕ) → IsStrictlyIncreasing xs → IsStrictlyIncreasing (difference xs ys)
difference-rises xs ys h = rising-filter (λ x. not (has ys x)) xs h

pub none_of : (xs : List ℕ) → first_of xs ≡ None → (r : ℕ) → first_of xs ≡ Some r → ⊥
none_of xs e r f = cc

pub shorter : (xs : List ℕ) (r : ℕ) → first_of xs ≡ Some r → length (rest_of xs) < length xs
shorter [] r e = cc
shorter (x ∷ xs) r e = omega arith

pub at_most_one : (xs : List ℕ) (r s : ℕ) → first_of xs ≡ Some r → first_of xs ≡ Some s → r ≡ s
at_most_one xs r s e f = cc
