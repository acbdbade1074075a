-- A pair is searched among ascending pairs, and what is put at its place.
use Rattle.std.proofs.Common.{◌≡◌, ℕ, zero, suc, ◌<◌, ◌≤◌, Bool, true, cond, ◌⊎◌, inl, inr, List, [], ◌∷◌, ◌++◌, length, map, get_or, set, Option, Some, None, Result, Ok, Err, IfOk, IfErr, OnOk, OnErr, unwrap_or, refl, sym, ap, subst, ◌∙◌, arith}
use Rattle.std.specs.Prelude.{T}
use Rattle.std.specs.List.{insert}
use Rattle.std.specs.List.Sorted.{IsSearchInRange, IsBinarySearchResult, IsNonDecreasingBy, IsPartitionedBy}
use Rattle.std.specs.Ordering.{ordering_index, ordering_reverse, is_eq, is_lt}
use Rattle.std.specs.declared.cmp.Ordering.{Ordering}
use Rattle.std.specs.declared.cmp.Ordering.TheVariants.{Less, Equal, Greater}
use Rattle.std.specs.Cmp.{tied_itself}
use Rattle.std.specs.FinMap.Entries.{find, put, is_sorted, below_all, by_order, is_sorted-put}
use Rattle.std.proofs.lemmas.Cmp.{alike_right}
use Rattle.std.proofs.lemmas.List.{get_or-map, set-get_or, map-set}
use Rattle.labels.specs.Labels.{pair_cmp}
use Rattle.labels.proofs.Times.{first_T, second_T}
use Rattle.head.specs.Index.{Pair, PairLists, listed, listed_more}
use Rattle.labels.proofs.Texts.{pair_total, pair_exact}
use Rattle.head.specs.Places.{IsAt, IsGapFor}

pub pair_self : (p : Pair) → pair_cmp p p ≡ Equal
pair_self p = tied_itself pair_total p

turned : (a b : Pair) (o : Ordering) → pair_cmp a b ≡ o → pair_cmp b a ≡ ordering_reverse o
turned a b o e = pair_total.antisymm b a ∙ ap ordering_reverse e

less_is : (o : Ordering) → T (is_lt o) → o ≡ Less
less_is Less t = refl
less_is Equal t = absurd t
less_is Greater t = absurd t

index_le : (o : Ordering) → ordering_index o ≤ 2
index_le Less = omega arith
index_le Equal = omega arith
index_le Greater = omega arith

step_by : (a b q : Pair) (o : Ordering) → pair_cmp a b ≡ Less → pair_cmp b q ≡ o → ordering_index (pair_cmp a q) ≤ ordering_index o
step_by a b q Less l e = let z : ordering_index (pair_cmp a q) ≡ 0 = ap ordering_index (pair_total.trans a b q l e) in omega (arith, z)
step_by a b q Equal l e = let z : ordering_index (pair_cmp a q) ≡ 0 = ap ordering_index (sym (alike_right pair_total b q a e) ∙ l) in omega (arith, z)
step_by a b q Greater l e = index_le (pair_cmp a q)

module _ {X : Type 0} (f : X → Pair × List ℕ) where
  below_at : (p : Pair) (xs : List X) → T (below_all pair_cmp p (map f xs)) → (k : ℕ) (d : X) → k < length xs → pair_cmp p (f (get_or xs k d)).0 ≡ Less
  below_at p [] h k d l = absurd (omega (arith, l))
  below_at p (x ∷ xs) h zero d l = less_is (pair_cmp p (f x).0) (first_T _ _ h)
  below_at p (x ∷ xs) h (suc k) d l = below_at p xs (second_T _ _ h) k d (omega (arith, l))

  -- the pairs of sorted lists ascend
  pub rises : (xs : List X) → T (is_sorted pair_cmp (map f xs)) → (i j : ℕ) (d : X) → i < j → j < length xs → pair_cmp (f (get_or xs i d)).0 (f (get_or xs j d)).0 ≡ Less
  rises [] h i j d l b = absurd (omega (arith, b))
  rises (x ∷ xs) h i zero d l b = absurd (omega (arith, l))
  rises (x ∷ xs) h zero (suc j) d l b = below_at (f x).0 xs (first_T _ _ h) j d (omega (arith, b))
  rises (x ∷ xs) h (suc i) (suc j) d l b = rises xs (second_T _ _ h) i j d (omega (arith, l)) (omega (arith, b))

  at_or_before : (i j : ℕ) → i ≤ j → (i ≡ j) ⊎ (i < j)
  at_or_before zero zero l = inl refl
  at_or_before zero (suc j) l = inr (omega arith)
  at_or_before (suc i) zero l = absurd (omega (arith, l))
  at_or_before (suc i) (suc j) l = elim (at_or_before i j (omega (arith, l))) [ inl e ↦ inl (ap suc e) | inr b ↦ inr (omega (arith, b)) ]

  comparisons_rise : (q : Pair) (xs : List X) → T (is_sorted pair_cmp (map f xs)) → IsNonDecreasingBy (λ x. ordering_index (pair_cmp (f x).0 q)) xs
  comparisons_rise q xs h i j d le b = elim (at_or_before i j le) [
    | inl e ↦ subst (λ (k : ℕ). ordering_index (pair_cmp (f (get_or xs i d)).0 q) ≤ ordering_index (pair_cmp (f (get_or xs k d)).0 q)) e (omega arith)
    | inr l ↦ step_by (f (get_or xs i d)).0 (f (get_or xs j d)).0 q (pair_cmp (f (get_or xs j d)).0 q) (rises xs h i j d l b) refl
  ]

  -- what is true of a pair is true of those before it
  pub parted : (p : Pair → Bool) (xs : List X) → T (is_sorted pair_cmp (map f xs)) → ((a b : Pair) → pair_cmp a b ≡ Less → p b ≡ true → p a ≡ true) → IsPartitionedBy (λ x. p (f x).0) xs
  parted p xs h down i j d le b t = elim (at_or_before i j le) [
    | inl e ↦ subst (λ (k : ℕ). p (f (get_or xs k d)).0 ≡ true) (sym e) t
    | inr l ↦ down (f (get_or xs i d)).0 (f (get_or xs j d)).0 (rises xs h i j d l b) t
  ]

  got : (xs : List X) (i : ℕ) (d : X) (e : Pair × List ℕ) → i < length xs → get_or (map f xs) i e ≡ f (get_or xs i d)
  got xs i d e l = get_or-map f xs i d e l

  some_of : (xs : List X) (i : ℕ) → i < length xs → X
  some_of [] i l = absurd (omega (arith, l))
  some_of (x ∷ xs) i l = x

  length_map : (xs : List X) → length (map f xs) ≡ length xs
  length_map [] = refl
  length_map (x ∷ xs) = ap suc (length_map xs)

  -- a binary search ends at the pair, or at the gap for it
  pub searched : (q : Pair) (xs : List X) (r : Result ℕ ℕ) → T (is_sorted pair_cmp (map f xs)) → IsSearchInRange r (length xs) → IsBinarySearchResult (λ x. pair_cmp (f x).0 q) xs r
      → record { found : IfOk r (IsAt q (map f xs)); absent : IfErr r (IsGapFor q (map f xs)) }
  searched q xs (Ok i) h l equal = record {
    found = record {
      in_range = omega (arith, l, length_map xs);
      same = λ e. let d = some_of xs i l in ap (λ (z : Pair × List ℕ). z.0) (got xs i d e l) ∙ pair_exact (f (get_or xs i d)).0 q (equal d);
    };
    absent = tt;
  }
  searched q xs (Err i) h l point = record {
    found = tt;
    absent = record {
      in_range = omega (arith, l, length_map xs);
      smaller_before = λ k e b.
          let inside : k < length xs = omega (arith, l, b) in
          let d = some_of xs k inside in
          ap (λ (z : Pair × List ℕ). pair_cmp z.0 q) (got xs k d e inside) ∙ (point (comparisons_rise q xs h)).0 k d (omega arith) b;
      greater_after = λ k e a b.
          let inside : k < length xs = omega (arith, b, length_map xs) in
          let d = some_of xs k inside in
          ap (λ (z : Pair × List ℕ). pair_cmp z.0 q) (got xs k d e inside) ∙ (point (comparisons_rise q xs h)).1 k d a inside;
    };
  }

map_self : (xs : PairLists) → map (λ (x : Pair × List ℕ). x) xs ≡ xs
map_self [] = refl
map_self (x ∷ xs) = ap (λ ys. x ∷ ys) (map_self xs)

first_less : (q : Pair) (e d : Pair × List ℕ) (es : PairLists) (i : ℕ) → T (is_sorted pair_cmp (e ∷ es)) → IsAt q (e ∷ es) (suc i) → pair_cmp e.0 q ≡ Less
first_less q e d es i h at =
    subst (λ (z : Pair). pair_cmp e.0 z ≡ Less) (at.same d)
    (rises (λ (x : Pair × List ℕ). x) (e ∷ es) (subst (λ (ys : PairLists). T (is_sorted pair_cmp ys)) (sym (map_self (e ∷ es))) h) zero (suc i) d (omega arith) at.in_range)

at_rest : (q : Pair) (e : Pair × List ℕ) (es : PairLists) (i : ℕ) → IsAt q (e ∷ es) (suc i) → IsAt q es i
at_rest q e es i at = record { in_range = omega (arith, at.in_range); same = at.same }

-- at its place a pair is found, and what is put there replaces its list
pub find_at : (q : Pair) (lists : PairLists) (i : ℕ) (d : Pair × List ℕ) → T (is_sorted pair_cmp lists) → IsAt q lists i → find pair_cmp q lists ≡ Some (get_or lists i d).1
find_at q [] i d h at = absurd (omega (arith, at.in_range))
find_at q (e ∷ es) zero d h at = ap (λ o. cond (is_eq o) (Some e.1) (find pair_cmp q es)) (subst (λ (z : Pair). pair_cmp z e.0 ≡ Equal) (at.same d) (pair_self e.0))
find_at q (e ∷ es) (suc i) d h at =
    ap (λ o. cond (is_eq o) (Some e.1) (find pair_cmp q es)) (turned e.0 q Less (first_less q e d es i h at))
    ∙ find_at q es i d (second_T _ _ h) (at_rest q e es i at)

pub put_at : (q : Pair) (v : List ℕ) (lists : PairLists) (i : ℕ) → T (is_sorted pair_cmp lists) → IsAt q lists i → put pair_cmp q v lists ≡ set lists i (q, v)
put_at q v [] i h at = absurd (omega (arith, at.in_range))
put_at q v (e ∷ es) zero h at =
    ap (λ o. by_order o ((q, v) ∷ e ∷ es) ((e.0, v) ∷ es) (e ∷ put pair_cmp q v es)) (subst (λ (z : Pair). pair_cmp z e.0 ≡ Equal) (at.same e) (pair_self e.0))
    ∙ ap (λ (z : Pair). (z, v) ∷ es) (at.same e)
put_at q v (e ∷ es) (suc i) h at =
    ap (λ o. by_order o ((q, v) ∷ e ∷ es) ((e.0, v) ∷ es) (e ∷ put pair_cmp q v es)) (turned e.0 q Less (first_less q e e es i h at))
    ∙ ap (λ ys. e ∷ ys) (put_at q v es i (second_T _ _ h) (at_rest q e es i at))

gap_rest : (q : Pair) (e : Pair × List ℕ) (es : PairLists) (i : ℕ) → IsGapFor q (e ∷ es) (suc i) → IsGapFor q es i
gap_rest q e es i gap = record {
  in_range = omega (arith, gap.in_range);
  smaller_before = λ k d b. gap.smaller_before (suc k) d (omega (arith, b));
  greater_after = λ k d a b. gap.greater_after (suc k) d (omega (arith, a)) (omega (arith, b));
}

gap_zero : (q : Pair) (e : Pair × List ℕ) (es : PairLists) → IsGapFor q (e ∷ es) zero → IsGapFor q es zero
gap_zero q e es gap = record {
  in_range = omega arith;
  smaller_before = λ k d b. absurd (omega (arith, b));
  greater_after = λ k d a b. gap.greater_after (suc k) d (omega arith) (omega (arith, b));
}

-- a pair that has a gap is not found, and goes there
pub find_gap : (q : Pair) (lists : PairLists) (i : ℕ) → IsGapFor q lists i → find pair_cmp q lists ≡ None
find_gap q [] i gap = refl
find_gap q (e ∷ es) zero gap =
    ap (λ o. cond (is_eq o) (Some e.1) (find pair_cmp q es)) (turned e.0 q Greater (gap.greater_after zero e (omega arith) (omega arith)))
    ∙ find_gap q es zero (gap_zero q e es gap)
find_gap q (e ∷ es) (suc i) gap =
    ap (λ o. cond (is_eq o) (Some e.1) (find pair_cmp q es)) (turned e.0 q Less (gap.smaller_before zero e (omega arith)))
    ∙ find_gap q es i (gap_rest q e es i gap)

pub put_gap : (q : Pair) (v : List ℕ) (lists : PairLists) (i : ℕ) → IsGapFor q lists i → put pair_cmp q v lists ≡ insert lists i (q, v)
put_gap q v [] zero gap = refl
put_gap q v [] (suc i) gap = absurd (omega (arith, gap.in_range))
put_gap q v (e ∷ es) zero gap = ap (λ o. by_order o ((q, v) ∷ e ∷ es) ((e.0, v) ∷ es) (e ∷ put pair_cmp q v es)) (turned e.0 q Greater (gap.greater_after zero e (omega arith) (omega arith)))
put_gap q v (e ∷ es) (suc i) gap =
    ap (λ o. by_order o ((q, v) ∷ e ∷ es) ((e.0, v) ∷ es) (e ∷ put pair_cmp q v es)) (turned e.0 q Less (gap.smaller_before zero e (omega arith)))
    ∙ ap (λ ys. e ∷ ys) (put_gap q v es i (gap_rest q e es i gap))

abbrev pub none : Pair × List ℕ
none = (([], []), [])

-- what a push at the pair's place leaves: a list with one reference more, or all as it was
pub pushed_sorted : {A B : Type 0} (q : Pair) (r : ℕ) (lists : PairLists) (i : ℕ) (x : Pair × List ℕ) (res : Result A B) → T (is_sorted pair_cmp lists) → IsAt q lists i
    → OnOk res (x ≡ ((get_or lists i none).0, (get_or lists i none).1 ++ r ∷ [])) → OnErr res (x ≡ get_or lists i none) → T (is_sorted pair_cmp (set lists i x))
pushed_sorted q r lists i x (Ok a) h at more same = subst (λ (ys : PairLists). T (is_sorted pair_cmp ys)) (put_at q ((get_or lists i none).1 ++ r ∷ []) lists i h at ∙ ap (λ z. set lists i (z, (get_or lists i none).1 ++ r ∷ [])) (sym (at.same none)) ∙ ap (set lists i) (sym more)) (is_sorted-put pair_cmp pair_total q ((get_or lists i none).1 ++ r ∷ []) lists h)
pushed_sorted q r lists i x (Err b) h at more same = subst (λ (ys : PairLists). T (is_sorted pair_cmp ys)) (sym (set-get_or lists i none) ∙ ap (set lists i) (sym same)) h

pub pushed_more : {A B : Type 0} (q : Pair) (r : ℕ) (lists : PairLists) (i : ℕ) (x : Pair × List ℕ) (res : Result A B) → T (is_sorted pair_cmp lists) → IsAt q lists i
    → OnOk res (x ≡ ((get_or lists i none).0, (get_or lists i none).1 ++ r ∷ [])) → OnOk res (set lists i x ≡ listed_more q r lists)
pushed_more q r lists i x (Ok a) h at more =
    let held : listed q lists ≡ (get_or lists i none).1 = ap (λ (o : Option (List ℕ)). unwrap_or o []) (find_at q lists i none h at) in
    ap (set lists i) more
    ∙ ap (λ z. set lists i (z, (get_or lists i none).1 ++ r ∷ [])) (at.same none)
    ∙ ap (λ (ys : List ℕ). set lists i (q, ys ++ r ∷ [])) (sym held)
    ∙ sym (put_at q (listed q lists ++ r ∷ []) lists i h at)
pushed_more q r lists i x (Err b) h at more = tt

-- what an insert at the pair's gap leaves
pub inserted_more : (q : Pair) (r : ℕ) (lists : PairLists) (i : ℕ) → IsGapFor q lists i → insert lists i (q, r ∷ []) ≡ listed_more q r lists
inserted_more q r lists i gap =
    let held : listed q lists ≡ [] = ap (λ (o : Option (List ℕ)). unwrap_or o []) (find_gap q lists i gap) in
    sym (put_gap q (r ∷ []) lists i gap) ∙ ap (λ (ys : List ℕ). put pair_cmp q (ys ++ r ∷ []) lists) (sym held)

pub map-insert : {X Y : Type 0} (f : X → Y) (xs : List X) (i : ℕ) (x : X) → map f (insert xs i x) ≡ insert (map f xs) i (f x)
map-insert f xs zero x = refl
map-insert f [] (suc i) x = refl
map-insert f (y ∷ ys) (suc i) x = ap (λ zs. f y ∷ zs) (map-insert f ys i x)

module _ {X : Type 0} (f : X → Pair × List ℕ) (xs : List X) where
  old_is : (i : ℕ) (old : X) → i < length (map f xs) → old ≡ get_or xs i old → f old ≡ get_or (map f xs) i none
  old_is i old l e = ap f e ∙ sym (get_or-map f xs i old none (omega (arith, l, length_map f xs)))

  more_is : {A B : Type 0} (i r : ℕ) (old new : X) (res : Result A B) → f old ≡ get_or (map f xs) i none → OnOk res (f new ≡ ((f old).0, (f old).1 ++ r ∷ []))
      → OnOk res (f new ≡ ((get_or (map f xs) i none).0, (get_or (map f xs) i none).1 ++ r ∷ []))
  more_is i r old new (Ok a) e more = more ∙ ap (λ (z : Pair × List ℕ). (z.0, z.1 ++ r ∷ [])) e
  more_is i r old new (Err b) e more = tt

  same_is : {A B : Type 0} (i : ℕ) (old new : X) (res : Result A B) → f old ≡ get_or (map f xs) i none → OnErr res (f new ≡ f old) → OnErr res (f new ≡ get_or (map f xs) i none)
  same_is i old new (Ok a) e same = tt
  same_is i old new (Err b) e same = same ∙ e

  -- a push to the list at the pair's place
  pub sorted_pushed : {A B : Type 0} (ys : List X) (q : Pair) (i r : ℕ) (old new : X) (res : Result A B) → T (is_sorted pair_cmp (map f xs)) → ys ≡ xs → IsAt q (map f ys) i → old ≡ get_or xs i old
      → OnOk res (f new ≡ ((f old).0, (f old).1 ++ r ∷ [])) → OnErr res (f new ≡ f old) → T (is_sorted pair_cmp (map f (set xs i new)))
  sorted_pushed ys q i r old new res h y at e more same =
      let here : IsAt q (map f xs) i = subst (λ (zs : List X). IsAt q (map f zs) i) y at in
      let is : f old ≡ get_or (map f xs) i none = old_is i old here.in_range e in
      subst (λ (zs : PairLists). T (is_sorted pair_cmp zs)) (sym (map-set f xs i new))
      (pushed_sorted q r (map f xs) i (f new) res h here (more_is i r old new res is more) (same_is i old new res is same))

  pub more_pushed : {A B : Type 0} (ys : List X) (q : Pair) (i r : ℕ) (old new : X) (res : Result A B) (whole : PairLists) (p : Pair) → T (is_sorted pair_cmp (map f xs)) → ys ≡ xs → IsAt q (map f ys) i → old ≡ get_or xs i old
      → OnOk res (f new ≡ ((f old).0, (f old).1 ++ r ∷ [])) → map f xs ≡ whole → q ≡ p → OnOk res (map f (set xs i new) ≡ listed_more p r whole)
  more_pushed ys q i r old new res whole p h y at e more w qp =
      let here : IsAt q (map f xs) i = subst (λ (zs : List X). IsAt q (map f zs) i) y at in
      let is : f old ≡ get_or (map f xs) i none = old_is i old here.in_range e in
      subst (λ (zs : PairLists). OnOk res (zs ≡ listed_more p r whole)) (sym (map-set f xs i new))
      (subst (λ (zs : PairLists). OnOk res (set (map f xs) i (f new) ≡ listed_more p r zs)) w
      (subst (λ (z : Pair). OnOk res (set (map f xs) i (f new) ≡ listed_more z r (map f xs))) qp
      (pushed_more q r (map f xs) i (f new) res h here (more_is i r old new res is more))))

  -- a list of its own for a pair that had none
  pub more_inserted : (ys : List X) (q : Pair) (i r : ℕ) (new : X) → ys ≡ xs → IsGapFor q (map f ys) i → f new ≡ (q, r ∷ []) → map f (insert xs i new) ≡ listed_more q r (map f xs)
  more_inserted ys q i r new y gap e =
      map-insert f xs i new
      ∙ ap (insert (map f xs) i) e
      ∙ inserted_more q r (map f xs) i (subst (λ (zs : List X). IsGapFor q (map f zs) i) y gap)

pub sorted_more : (q : Pair) (r : ℕ) (lists : PairLists) → T (is_sorted pair_cmp lists) → T (is_sorted pair_cmp (listed_more q r lists))
sorted_more q r lists h = is_sorted-put pair_cmp pair_total q (listed q lists ++ r ∷ []) lists h

module _ {X : Type 0} (f : X → Pair × List ℕ) where
  -- what a search finds is the list of the pair
  pub found_is : (xs ys : List X) (q : Pair) (i : ℕ) (x : X) (l : List ℕ) (whole : PairLists) → T (is_sorted pair_cmp (map f xs)) → ys ≡ xs → IsAt q (map f ys) i → map f xs ≡ whole → x ≡ get_or xs i x → l ≡ (f x).1 → find pair_cmp q whole ≡ Some l
  found_is xs ys q i x l whole h y at w e same =
      let here : IsAt q (map f xs) i = subst (λ (zs : List X). IsAt q (map f zs) i) y at in
      ap (find pair_cmp q) (sym w)
      ∙ find_at q (map f xs) i none h here
      ∙ ap (λ (z : Pair × List ℕ). Some z.1) (sym (old_is f xs i x here.in_range e))
      ∙ ap (λ (z : List ℕ). Some z) (sym same)

  pub absent_is : (xs ys : List X) (q : Pair) (i : ℕ) (whole : PairLists) → ys ≡ xs → IsGapFor q (map f ys) i → map f xs ≡ whole → find pair_cmp q whole ≡ None
  absent_is xs ys q i whole y gap w = ap (find pair_cmp q) (sym w) ∙ find_gap q (map f xs) i (subst (λ (zs : List X). IsGapFor q (map f zs) i) y gap)
