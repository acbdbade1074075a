-- A sample in a range is searched in the chunk that the range begins in.
use Rattle.std.proofs.Common.{◌≡◌, ◌≢◌, ℕ, zero, suc, ◌+◌, ◌<◌, ◌≤◌, ℤ, Bool, true, false, not, ◌&&◌, ◌||◌, List, [], ◌∷◌, ◌++◌, length, map, get_or, append_assoc, refl, sym, ap, subst, ◌∙◌, arith}
use Rattle.std.specs.Prelude.{T, int_lt, nat_eq, pos}
use Rattle.std.proofs.Math.ListN.{get_or-map}
use Rattle.std.proofs.lemmas.List.{length-map, get_or-map as get_or-map_below}
use Rattle.std.specs.List.{flat_map, list_all, Contains}
use Rattle.std.specs.List.Sorted.{IsPartitionedBy, IsPartitionPoint}
use Rattle.std.specs.Ordering.{int_cmp}
use Rattle.std.specs.declared.cmp.Ordering.TheVariants.{Less}
use Rattle.std.specs.FinMap.Entries.{is_sorted, below_all}
use Rattle.std.proofs.lemmas.Bool.Decides.{nat_tests}
use Rattle.labels.specs.Parts.{has_sample}
use Rattle.labels.proofs.Times.{first_T, second_T, both_T, true_not_false}
use Rattle.head.specs.ChunkEnds.{ends_before}
use Rattle.head.specs.Chunks.{joined_chunks}
use Rattle.head.proofs.Sampling.{none_after, lt_before, less_is}

abbrev pub Samples : Type 0
Samples = List (ℤ × ℤ)

-- what comes before samples of which the last lies before a time lies before it
first_before : (a : ℤ) (s x : ℤ × ℤ) (xs : Samples) → T (below_all int_cmp s.0 (x ∷ xs)) → ends_before a (x ∷ xs) ≡ true → int_lt s.0 a ≡ true
first_before a s x [] h e = lt_before s.0 x.0 a (less_is (int_cmp s.0 x.0) (first_T _ _ h)) e
first_before a s x (y ∷ ys) h e = first_before a s y ys (second_T _ _ h) e

below_front : (t : ℤ) (xs ys : Samples) → T (below_all int_cmp t (xs ++ ys)) → T (below_all int_cmp t xs)
below_front t [] ys h = tt
below_front t (x ∷ xs) ys h = both_T _ _ (first_T _ _ h) (below_front t xs ys (second_T _ _ h))

below_back : (t : ℤ) (xs ys : Samples) → T (below_all int_cmp t (xs ++ ys)) → T (below_all int_cmp t ys)
below_back t [] ys h = h
below_back t (x ∷ xs) ys h = below_back t xs ys (second_T _ _ h)

pub sorted_back : (xs ys : Samples) → T (is_sorted int_cmp (xs ++ ys)) → T (is_sorted int_cmp ys)
sorted_back [] ys h = h
sorted_back (x ∷ xs) ys h = sorted_back xs ys (second_T _ _ h)

pub sorted_front : (xs ys : Samples) → T (is_sorted int_cmp (xs ++ ys)) → T (is_sorted int_cmp xs)
sorted_front [] ys h = tt
sorted_front (x ∷ xs) ys h = both_T _ _ (below_front x.0 xs ys (first_T _ _ h)) (sorted_front xs ys (second_T _ _ h))

passed_by : (a b : ℤ) (s : ℤ × ℤ) (rest : Bool) → int_lt s.0 a ≡ true → ((not (int_lt s.0 a) && not (int_lt b s.0)) || rest) ≡ rest
passed_by a b s rest e = ap (λ c. (not c && not (int_lt b s.0)) || rest) e

-- samples that end before the range have none in it
skipped : (a b : ℤ) (xs ys : Samples) → T (is_sorted int_cmp (xs ++ ys)) → ends_before a xs ≡ true → has_sample a b (xs ++ ys) ≡ has_sample a b ys
skipped a b [] ys h e = refl
skipped a b (s ∷ []) ys h e = passed_by a b s (has_sample a b ys) e
skipped a b (s ∷ x ∷ xs) ys h e =
    passed_by a b s (has_sample a b ((x ∷ xs) ++ ys)) (first_before a s x xs (below_front s.0 (x ∷ xs) ys (first_T _ _ h)) e)
    ∙ skipped a b (x ∷ xs) ys (second_T _ _ h) e

last_decides : (a b : ℤ) (s : ℤ × ℤ) (ys : Samples) (c : Bool) → int_lt b s.0 ≡ c → T (below_all int_cmp s.0 ys) → int_lt s.0 a ≡ false
    → ((not (int_lt s.0 a) && not (int_lt b s.0)) || has_sample a b ys) ≡ ((not (int_lt s.0 a) && not (int_lt b s.0)) || false)
last_decides a b s ys true e h l = ap (λ z. (not (int_lt s.0 a) && not (int_lt b s.0)) || z) (none_after a b s.0 ys e h)
last_decides a b s ys false e h l = (λ i. (not (l i) && not (e i)) || has_sample a b ys) ∙ sym (λ i. (not (l i) && not (e i)) || false)

-- samples that do not end before the range decide
decided : (a b : ℤ) (xs ys : Samples) → T (is_sorted int_cmp (xs ++ ys)) → ends_before a xs ≡ false → has_sample a b (xs ++ ys) ≡ has_sample a b xs
decided a b [] ys h e = absurd (true_not_false e)
decided a b (s ∷ []) ys h e = last_decides a b s ys (int_lt b s.0) refl (first_T _ _ h) e
decided a b (s ∷ x ∷ xs) ys h e = ap (λ z. (not (int_lt s.0 a) && not (int_lt b s.0)) || z) (decided a b (x ∷ xs) ys (second_T _ _ h) e)

regroup : (c : Samples) (cs : List Samples) (last : Samples) → joined_chunks (c ∷ cs) last ≡ c ++ joined_chunks cs last
regroup c cs last = append_assoc c (flat_map (λ (samples : Samples). samples) cs) last

sorted_regroup : (c : Samples) (cs : List Samples) (last : Samples) → T (is_sorted int_cmp (joined_chunks (c ∷ cs) last)) → T (is_sorted int_cmp (c ++ joined_chunks cs last))
sorted_regroup c cs last h = subst (λ (xs : Samples). T (is_sorted int_cmp xs)) (regroup c cs last) h

-- the first chunk that does not end before the range decides
pub chunk_decides : (a b : ℤ) (cs : List Samples) (last : Samples) (i : ℕ) (d : Samples) → T (is_sorted int_cmp (joined_chunks cs last)) → i < length cs
    → ((k : ℕ) (e : Samples) → k < i → ends_before a (get_or cs k e) ≡ true) → ends_before a (get_or cs i d) ≡ false → has_sample a b (get_or cs i d) ≡ has_sample a b (joined_chunks cs last)
chunk_decides a b [] last i d h l before here = absurd (omega (arith, l))
chunk_decides a b (c ∷ cs) last zero d h l before here =
    sym (ap (has_sample a b) (regroup c cs last) ∙ decided a b c (joined_chunks cs last) (sorted_regroup c cs last h) here)
chunk_decides a b (c ∷ cs) last (suc i) d h l before here =
    chunk_decides a b cs last i d (sorted_back c (joined_chunks cs last) (sorted_regroup c cs last h)) (omega (arith, l)) (λ k e m. before (suc k) e (omega (arith, m))) here
    ∙ sym (ap (has_sample a b) (regroup c cs last) ∙ skipped a b c (joined_chunks cs last) (sorted_regroup c cs last h) (before zero c (omega arith)))

-- where all chunks end before the range, what comes last decides
pub last_chunk_decides : (a b : ℤ) (cs : List Samples) (last : Samples) → T (is_sorted int_cmp (joined_chunks cs last))
    → ((k : ℕ) (e : Samples) → k < length cs → ends_before a (get_or cs k e) ≡ true) → has_sample a b last ≡ has_sample a b (joined_chunks cs last)
last_chunk_decides a b [] last h before = refl
last_chunk_decides a b (c ∷ cs) last h before =
    last_chunk_decides a b cs last (sorted_back c (joined_chunks cs last) (sorted_regroup c cs last h)) (λ k e m. before (suc k) e (omega (arith, m)))
    ∙ sym (ap (has_sample a b) (regroup c cs last) ∙ skipped a b c (joined_chunks cs last) (sorted_regroup c cs last h) (before zero c (omega arith)))

pub sorted_chunk : (cs : List Samples) (last : Samples) (i : ℕ) (d : Samples) → T (is_sorted int_cmp (joined_chunks cs last)) → i < length cs → T (is_sorted int_cmp (get_or cs i d))
sorted_chunk [] last i d h l = absurd (omega (arith, l))
sorted_chunk (c ∷ cs) last zero d h l = sorted_front c (joined_chunks cs last) (sorted_regroup c cs last h)
sorted_chunk (c ∷ cs) last (suc i) d h l = sorted_chunk cs last i d (sorted_back c (joined_chunks cs last) (sorted_regroup c cs last h)) (omega (arith, l))

pub sorted_last : (cs : List Samples) (last : Samples) → T (is_sorted int_cmp (joined_chunks cs last)) → T (is_sorted int_cmp last)
sorted_last cs last h = sorted_back (flat_map (λ (samples : Samples). samples) cs) last h

-- a chunk before one that has a sample and ends before a time ends before it too
all_before : (a t : ℤ) (xs ys : Samples) → T (is_sorted int_cmp (xs ++ ys)) → (y : ℤ × ℤ) → Contains ys y → int_lt y.0 a ≡ true → ends_before a xs ≡ true
all_before a t [] ys h y c e = refl
all_before a t (s ∷ []) ys h y c e = lt_before s.0 y.0 a (below_member s.0 ys y (first_T _ _ h) c) e
  where
    below_member : (u : ℤ) (zs : Samples) (z : ℤ × ℤ) → T (below_all int_cmp u zs) → Contains zs z → int_cmp u z.0 ≡ Less
    below_member u [] z g m = absurd (omega (arith, m.1))
    below_member u (w ∷ ws) z g (zero, l, q) = subst (λ (v : ℤ × ℤ). int_cmp u v.0 ≡ Less) q (less_is (int_cmp u w.0) (first_T _ _ g))
    below_member u (w ∷ ws) z g (suc k, l, q) = below_member u ws z (second_T _ _ g) (k, omega (arith, l), q)
all_before a t (s ∷ x ∷ xs) ys h y c e = all_before a t (x ∷ xs) ys (second_T _ _ h) y c e

first_ends : (a : ℤ) (s : ℤ × ℤ) (xs : Samples) → T (is_sorted int_cmp (s ∷ xs)) → ends_before a (s ∷ xs) ≡ true → int_lt s.0 a ≡ true
first_ends a s [] h e = e
first_ends a s (x ∷ xs) h e = first_before a s x xs (first_T _ _ h) e

in_front : (xs ys : Samples) (y : ℤ × ℤ) → Contains xs y → Contains (xs ++ ys) y
in_front [] ys y c = absurd (omega (arith, c.1))
in_front (x ∷ xs) ys y (zero, l, q) = (zero, omega arith, q)
in_front (x ∷ xs) ys y (suc k, l, q) =
    let r = in_front xs ys y (k, omega (arith, l), q) in
    (suc r.0, omega (arith, r.1), r.2)

in_back : (xs ys : Samples) (y : ℤ × ℤ) → Contains ys y → Contains (xs ++ ys) y
in_back [] ys y c = c
in_back (x ∷ xs) ys y c = let r = in_back xs ys y c in (suc r.0, omega (arith, r.1), r.2)

in_joined : (cs : List Samples) (last : Samples) (j : ℕ) (d : Samples) (y : ℤ × ℤ) → j < length cs → Contains (get_or cs j d) y → Contains (joined_chunks cs last) y
in_joined [] last j d y l c = absurd (omega (arith, l))
in_joined (x ∷ xs) last zero d y l c = subst (λ (zs : Samples). Contains zs y) (sym (regroup x xs last)) (in_front x (joined_chunks xs last) y c)
in_joined (x ∷ xs) last (suc j) d y l c = subst (λ (zs : Samples). Contains zs y) (sym (regroup x xs last)) (in_back x (joined_chunks xs last) y (in_joined xs last j d y (omega (arith, l)) c))

earlier_ends : (a : ℤ) (c : Samples) (cs : List Samples) (last : Samples) (j : ℕ) (d : Samples) → T (is_sorted int_cmp (joined_chunks (c ∷ cs) last)) → j < length cs → (chunk : Samples) → get_or cs j d ≡ chunk → chunk ≢ [] → ends_before a chunk ≡ true → ends_before a c ≡ true
earlier_ends a c cs last j d h l [] e full t = absurd (full refl)
earlier_ends a c cs last j d h l (y ∷ ys) e full t =
    let g : T (is_sorted int_cmp (c ++ joined_chunks cs last)) = sorted_regroup c cs last h in
    let own : T (is_sorted int_cmp (y ∷ ys)) = subst (λ (zs : Samples). T (is_sorted int_cmp zs)) e (sorted_chunk cs last j d (sorted_back c (joined_chunks cs last) g) l) in
    all_before a y.0 c (joined_chunks cs last) g y
    (in_joined cs last j d y l (subst (λ (zs : Samples). Contains zs y) (sym e) (zero, omega arith, refl)))
    (first_ends a y ys own t)

-- chunks that end before a time stand first
pub ends_parted : (a : ℤ) (cs : List Samples) (last : Samples) → T (is_sorted int_cmp (joined_chunks cs last)) → ((k : ℕ) (e : Samples) → k < length cs → get_or cs k e ≢ []) → IsPartitionedBy (ends_before a) cs
ends_parted a [] last h full i j d le l t = absurd (omega (arith, l))
ends_parted a (c ∷ cs) last h full zero zero d le l t = t
ends_parted a (c ∷ cs) last h full (suc i) zero d le l t = absurd (omega (arith, le))
ends_parted a (c ∷ cs) last h full zero (suc j) d le l t = earlier_ends a c cs last j d h (omega (arith, l)) (get_or cs j d) refl (full (suc j) d l) t
ends_parted a (c ∷ cs) last h full (suc i) (suc j) d le l t =
    ends_parted a cs last (sorted_back c (joined_chunks cs last) (sorted_regroup c cs last h)) (λ k e m. full (suc k) e (omega (arith, m))) i j d (omega (arith, le)) (omega (arith, l)) t

-- the last sample tells whether a chunk ends before a time
pub ends_at : (t : ℤ) (xs : Samples) (k : ℕ) → k + 1 ≡ length xs → int_lt (get_or xs k (pos 0, pos 0)).0 t ≡ ends_before t xs
ends_at t [] k l = absurd (omega (arith, l))
ends_at t (s ∷ []) zero l = refl
ends_at t (s ∷ []) (suc k) l = absurd (omega (arith, l))
ends_at t (s ∷ y ∷ ys) zero l = absurd (omega (arith, l))
ends_at t (s ∷ y ∷ ys) (suc k) l = ends_at t (y ∷ ys) k (omega (arith, l))

eq_of : (a b : ℕ) → T (nat_eq a b) → a ≡ b
eq_of a b h = grind (arith, nat_tests)

nonempty : (c : Samples) → T (nat_eq (length c) 120) → c ≢ []
nonempty c h e = let none : length c ≡ 0 = ap length e in let size : length c ≡ 120 = eq_of (length c) 120 h in omega arith

-- a full chunk is not empty
pub full_chunks : (cs : List Samples) → T (list_all (λ samples. nat_eq (length samples) 120) cs) → (k : ℕ) (e : Samples) → k < length cs → get_or cs k e ≢ []
full_chunks [] h k e l = absurd (omega (arith, l))
full_chunks (c ∷ cs) h zero e l = nonempty c (first_T _ _ h)
full_chunks (c ∷ cs) h (suc k) e l = full_chunks cs (second_T _ _ h) k e (omega (arith, l))

module _ {X : Type 0} (f : X → Samples) (xs : List X) (last : Samples) where
  pub parted_each : (a : ℤ) → T (is_sorted int_cmp (joined_chunks (map f xs) last)) → T (list_all (λ samples. nat_eq (length samples) 120) (map f xs)) → IsPartitionedBy (λ x. ends_before a (f x)) xs
  parted_each a h full i j d le l t =
      let inside : j < length (map f xs) = omega (arith, l, length-map xs f) in
      subst (λ c. ends_before a c ≡ true) (get_or-map f xs i d)
      (ends_parted a (map f xs) last h (full_chunks (map f xs) full) i j (f d) le inside (subst (λ c. ends_before a c ≡ true) (sym (get_or-map f xs j d)) t))

  found_at : (i : ℕ) (x : X) (s : Samples) → x ≡ get_or xs i x → s ≡ f x → get_or (map f xs) i (f x) ≡ s
  found_at i x s e same = get_or-map f xs i x ∙ ap f (sym e) ∙ sym same

  some_x : (ys : List X) (i : ℕ) → i < length ys → X
  some_x [] i l = absurd (omega (arith, l))
  some_x (y ∷ ys) i l = y

  ends_each : (a : ℤ) (k n : ℕ) → n ≤ length xs → ((j : ℕ) (d : X) → j < n → ends_before a (f (get_or xs j d)) ≡ true) → (e : Samples) → k < n → ends_before a (get_or (map f xs) k e) ≡ true
  ends_each a k n le h e l =
      let inside : k < length xs = omega (arith, le, l) in
      let d = some_x xs k inside in
      ap (ends_before a) (get_or-map_below f xs k d e inside) ∙ h k d l

  pub sorted_here : (i : ℕ) (x : X) (s : Samples) → T (is_sorted int_cmp (joined_chunks (map f xs) last)) → i < length xs → x ≡ get_or xs i x → s ≡ f x → T (is_sorted int_cmp s)
  sorted_here i x s h l e same = subst (λ (c : Samples). T (is_sorted int_cmp c)) (found_at i x s e same) (sorted_chunk (map f xs) last i (f x) h (omega (arith, l, length-map xs f)))

  -- the chunk that was searched for decides
  pub decides_here : (a b : ℤ) (i : ℕ) (x : X) (s : Samples) → T (is_sorted int_cmp (joined_chunks (map f xs) last)) → i < length xs → x ≡ get_or xs i x → s ≡ f x
      → IsPartitionPoint (λ y. ends_before a (f y) ≡ true) (λ y. ends_before a (f y) ≡ false) xs i → has_sample a b s ≡ has_sample a b (joined_chunks (map f xs) last)
  decides_here a b i x s h l e same point =
      ap (has_sample a b) (sym (found_at i x s e same))
      ∙ chunk_decides a b (map f xs) last i (f x) h (omega (arith, l, length-map xs f))
      (λ k c m. ends_each a k i (omega (arith, l)) (λ j d n. point.0 j d (omega arith) n) c m)
      (ap (ends_before a) (get_or-map f xs i x) ∙ point.1 i x (omega arith) l)

  pub decides_last : (a b : ℤ) (i : ℕ) → T (is_sorted int_cmp (joined_chunks (map f xs) last)) → length xs ≤ i
      → IsPartitionPoint (λ y. ends_before a (f y) ≡ true) (λ y. ends_before a (f y) ≡ false) xs i → has_sample a b last ≡ has_sample a b (joined_chunks (map f xs) last)
  decides_last a b i h l point =
      last_chunk_decides a b (map f xs) last h
      (λ k c m. ends_each a k (length xs) (omega arith) (λ j d n. point.0 j d (omega arith) (omega (arith, n, l))) c (omega (arith, m, length-map xs f)))

-- the same under other names of the times
pub sampled_times : (a a' b b' : ℤ) (xs : Samples) (r : Bool) → a' ≡ a → b' ≡ b → r ≡ has_sample a' b' xs → r ≡ has_sample a b xs
sampled_times a a' b b' xs r p q e = e ∙ (λ i. has_sample (p i) (q i) xs)
