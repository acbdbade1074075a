-- Samples in the order of their times, laid over others.
use Rattle.std.proofs.Common.{◌≡◌, ℤ, T, cond, List, [], ◌∷◌, ◌++◌, Option, None, Some, refl, sym, ◌∙◌, ap, subst, length, arith}
use Rattle.std.specs.declared.cmp.Ordering.{Ordering}
use Rattle.std.specs.declared.cmp.Ordering.TheVariants.{Less, Equal, Greater}
use Rattle.std.specs.Ordering.{int_cmp, is_lt, ordering_reverse, eq_by_cmp}
use Rattle.std.specs.FinMap.{int_cmp-IsAntisymmetric}
use Rattle.std.specs.FinMap.Entries.{put, find, by_order, is_sorted, below_all, is_sorted-put, find-put, same_entries}
use Rattle.std.proofs.lemmas.Cmp.{int_cmp_total}
use Rattle.labels.proofs.ContentLaws.{or_else, or_else_cond}
use Rattle.labels.proofs.Times.{both_T, first_T, second_T, T_of}
use Rattle.labels.proofs.SortedRows.{not_cons}
use Rattle.series_merge.specs.Merging.{laid_times}

pub less_is : (o : Ordering) → T (is_lt o) → o ≡ Less
less_is Less h = refl
less_is Equal h = absurd h
less_is Greater h = absurd h

below_put : (t k v : ℤ) (es : List (ℤ × ℤ)) → T (is_lt (int_cmp t k)) → T (below_all int_cmp t es)
    → T (below_all int_cmp t (put int_cmp k v es))
below_put t k v [] less below = both_T _ _ less tt
below_put t k v (e ∷ es) less below =
    elim (int_cmp k e.0) as (λ o. T (below_all int_cmp t (by_order o ((k, v) ∷ e ∷ es) ((
      e.0,
      v,
    ) ∷ es) (e ∷ put int_cmp k v es)))) [
      | Less ↦ both_T _ _ less below
      | Equal ↦ below
      | Greater ↦ both_T _ _ (first_T _ _ below) (below_put t k v es less (second_T _ _ below))
    ]

below_laid : (t : ℤ) (over under : List (ℤ × ℤ)) → T (below_all int_cmp t over)
    → T (below_all int_cmp t under) → T (below_all int_cmp t (laid_times over under))
below_laid t [] under a b = b
below_laid t (s ∷ ss) under a b =
    below_put t s.0 s.1 (laid_times ss under) (first_T _ _ a)
    (below_laid t ss under (second_T _ _ a) b)

pub below_later : (t u : ℤ) (es : List (ℤ × ℤ)) → int_cmp t u ≡ Less → T (below_all int_cmp u es)
    → T (below_all int_cmp t es)
below_later t u [] less below = tt
below_later t u (e ∷ es) less below =
    both_T _ _
    (T_of _ (ap is_lt (int_cmp_total.trans t u e.0 less (less_is _ (first_T _ _ below)))))
    (below_later t u es less (second_T _ _ below))

put_below : (t v : ℤ) (es : List (ℤ × ℤ)) → T (below_all int_cmp t es)
    → put int_cmp t v es ≡ (t, v) ∷ es
put_below t v [] below = refl
put_below t v (e ∷ es) below =
    ap (λ o. by_order o ((t, v) ∷ e ∷ es) ((e.0, v) ∷ es) (e ∷ put int_cmp t v es))
    (less_is _ (first_T _ _ below))

-- a sample that is before all stays first
laid-under : (y : ℤ × ℤ) (over ys : List (ℤ × ℤ)) → T (below_all int_cmp y.0 over)
    → laid_times over (y ∷ ys) ≡ y ∷ laid_times over ys
laid-under y [] ys below = refl
laid-under y (s ∷ ss) ys below =
    ap (put int_cmp s.0 s.1) (laid-under y ss ys (second_T _ _ below))
    ∙ ap (λ o. by_order o ((s.0, s.1) ∷ y ∷ laid_times ss ys) ((y.0, s.1) ∷ laid_times ss ys)
    (y ∷ put int_cmp s.0 s.1 (laid_times ss ys)))
    (int_cmp_total.antisymm s.0 y.0 ∙ ap ordering_reverse (less_is _ (first_T _ _ below)))

pub laid-less : (x : ℤ × ℤ) (xs : List (ℤ × ℤ)) (y : ℤ × ℤ) (ys : List (ℤ × ℤ))
    → T (is_sorted int_cmp (x ∷ xs)) → T (is_sorted int_cmp (y ∷ ys)) → int_cmp x.0 y.0 ≡ Less
    → laid_times (x ∷ xs) (y ∷ ys) ≡ x ∷ laid_times xs (y ∷ ys)
laid-less x xs y ys over under less =
    put_below x.0 x.1 (laid_times xs (y ∷ ys)) (below_laid x.0 xs (y ∷ ys) (first_T _ _ over)
    (both_T _ _ (T_of _ (ap is_lt less)) (below_later x.0 y.0 ys less (first_T _ _ under))))

pub laid-equal : (x : ℤ × ℤ) (xs : List (ℤ × ℤ)) (y : ℤ × ℤ) (ys : List (ℤ × ℤ))
    → T (is_sorted int_cmp (x ∷ xs)) → int_cmp x.0 y.0 ≡ Equal
    → laid_times (x ∷ xs) (y ∷ ys) ≡ x ∷ laid_times xs ys
laid-equal x xs y ys over same =
    let is = int_cmp-IsAntisymmetric x.0 y.0 same in
    ap (put int_cmp x.0 x.1)
    (laid-under y xs ys (subst (λ (t : ℤ). T (below_all int_cmp t xs)) is (first_T _ _ over)))
    ∙ ap (λ o. by_order o ((x.0, x.1) ∷ y ∷ laid_times xs ys) ((y.0, x.1) ∷ laid_times xs ys)
    (y ∷ put int_cmp x.0 x.1 (laid_times xs ys))) same
    ∙ ap (λ (t : ℤ). (t, x.1) ∷ laid_times xs ys) (sym is)

pub laid-greater : (x : ℤ × ℤ) (xs : List (ℤ × ℤ)) (y : ℤ × ℤ) (ys : List (ℤ × ℤ))
    → T (is_sorted int_cmp (x ∷ xs)) → int_cmp x.0 y.0 ≡ Greater
    → laid_times (x ∷ xs) (y ∷ ys) ≡ y ∷ laid_times (x ∷ xs) ys
laid-greater x xs y ys over more =
    let less = int_cmp_total.antisymm y.0 x.0 ∙ ap ordering_reverse more in
    laid-under y (x ∷ xs) ys
    (both_T _ _ (T_of _ (ap is_lt less)) (below_later y.0 x.0 xs less (first_T _ _ over)))

pub laid-nothing : (x : ℤ × ℤ) (xs : List (ℤ × ℤ)) → T (is_sorted int_cmp (x ∷ xs))
    → laid_times (x ∷ xs) [] ≡ x ∷ laid_times xs []
laid-nothing x xs over =
    put_below x.0 x.1 (laid_times xs []) (below_laid x.0 xs [] (first_T _ _ over) tt)

-- the same for lists that are known by their first samples
pub next-less : (over under : List (ℤ × ℤ)) (x : ℤ × ℤ) (xs : List (ℤ × ℤ)) (y : ℤ × ℤ)
    (ys : List (ℤ × ℤ)) → over ≡ x ∷ xs → under ≡ y ∷ ys
    → T (is_sorted int_cmp over) → T (is_sorted int_cmp under) → int_cmp x.0 y.0 ≡ Less
    → laid_times over under ≡ x ∷ laid_times xs under
next-less over under x xs y ys e f h k less =
    ap (λ o. laid_times o under) e ∙ ap (laid_times (x ∷ xs)) f
    ∙ laid-less x xs y ys (subst (λ (o : List (ℤ × ℤ)). T (is_sorted int_cmp o)) e h)
    (subst (λ (u : List (ℤ × ℤ)). T (is_sorted int_cmp u)) f k) less
    ∙ ap (λ u. x ∷ laid_times xs u) (sym f)

pub next-equal : (over under : List (ℤ × ℤ)) (x : ℤ × ℤ) (xs : List (ℤ × ℤ)) (y : ℤ × ℤ)
    (ys : List (ℤ × ℤ)) → over ≡ x ∷ xs → under ≡ y ∷ ys
    → T (is_sorted int_cmp over) → int_cmp x.0 y.0 ≡ Equal
    → laid_times over under ≡ x ∷ laid_times xs ys
next-equal over under x xs y ys e f h same =
    ap (λ o. laid_times o under) e
    ∙ ap (laid_times (x ∷ xs)) f
    ∙ laid-equal x xs y ys (subst (λ (o : List (ℤ × ℤ)). T (is_sorted int_cmp o)) e h) same

pub next-greater : (over under : List (ℤ × ℤ)) (x : ℤ × ℤ) (xs : List (ℤ × ℤ)) (y : ℤ × ℤ)
    (ys : List (ℤ × ℤ)) → over ≡ x ∷ xs → under ≡ y ∷ ys
    → T (is_sorted int_cmp over) → int_cmp x.0 y.0 ≡ Greater
    → laid_times over under ≡ y ∷ laid_times over ys
next-greater over under x xs y ys e f h more =
    ap (λ o. laid_times o under) e
    ∙ ap (laid_times (x ∷ xs)) f
    ∙ laid-greater x xs y ys (subst (λ (o : List (ℤ × ℤ)). T (is_sorted int_cmp o)) e h) more
    ∙ ap (λ o. y ∷ laid_times o ys) (sym e)

pub next-nothing : (over under : List (ℤ × ℤ)) (x : ℤ × ℤ) (xs : List (ℤ × ℤ))
    → over ≡ x ∷ xs → length under ≡ 0
    → T (is_sorted int_cmp over) → laid_times over under ≡ x ∷ laid_times xs under
next-nothing over [] x xs e none h =
    ap (λ o. laid_times o []) e
    ∙ laid-nothing x xs (subst (λ (o : List (ℤ × ℤ)). T (is_sorted int_cmp o)) e h)
next-nothing over (y ∷ ys) x xs e none h = absurd (omega (arith, none))

pub is_sorted-laid_times : (over under : List (ℤ × ℤ)) → T (is_sorted int_cmp under)
    → T (is_sorted int_cmp (laid_times over under))
is_sorted-laid_times [] under h = h
is_sorted-laid_times (s ∷ ss) under h =
    is_sorted-put int_cmp int_cmp_total s.0 s.1 (laid_times ss under)
    (is_sorted-laid_times ss under h)

pub laid-nil : (over : List (ℤ × ℤ)) → T (is_sorted int_cmp over) → laid_times over [] ≡ over
laid-nil [] h = refl
laid-nil (x ∷ xs) h = laid-nothing x xs h ∙ ap (λ ss. x ∷ ss) (laid-nil xs (second_T _ _ h))

below-last : (t : ℤ) (front : List (ℤ × ℤ)) (last : ℤ × ℤ)
    → T (below_all int_cmp t (front ++ last ∷ [])) → int_cmp t last.0 ≡ Less
below-last t [] last h = less_is _ (first_T _ _ h)
below-last t (e ∷ es) last h = below-last t es last (second_T _ _ h)

laid-behind : (x : ℤ × ℤ) (xs front : List (ℤ × ℤ)) (last : ℤ × ℤ) → T (is_sorted int_cmp (x ∷ xs))
    → T (is_sorted int_cmp (front ++ last ∷ [])) → int_cmp last.0 x.0 ≡ Less
    → laid_times (x ∷ xs) (front ++ last ∷ []) ≡ (front ++ last ∷ []) ++ x ∷ xs
laid-behind x xs [] last over under less =
    laid-under last (x ∷ xs) []
    (both_T _ _ (T_of _ (ap is_lt less)) (below_later last.0 x.0 xs less (first_T _ _ over)))
    ∙ ap (λ ss. last ∷ ss) (laid-nil (x ∷ xs) over)
laid-behind x xs (y ∷ ys) last over under less =
    let before =
    int_cmp_total.trans y.0 last.0 x.0 (below-last y.0 ys last (first_T _ _ under)) less in
    laid-under y (x ∷ xs) (ys ++ last ∷ [])
    (both_T _ _ (T_of _ (ap is_lt before)) (below_later y.0 x.0 xs before (first_T _ _ over)))
    ∙ ap (λ ss. y ∷ ss) (laid-behind x xs ys last over (second_T _ _ under) less)

-- samples that all come after others stand behind them
pub laid-after : (over under : List (ℤ × ℤ)) (x : ℤ × ℤ) (xs front : List (ℤ × ℤ)) (last : ℤ × ℤ)
    → over ≡ x ∷ xs → under ≡ front ++ last ∷ []
    → T (is_sorted int_cmp over) → T (is_sorted int_cmp under) → int_cmp last.0 x.0 ≡ Less
    → laid_times over under ≡ under ++ over
laid-after over under x xs front last e f h k less =
    ap (λ o. laid_times o under) e ∙ ap (laid_times (x ∷ xs)) f
    ∙ laid-behind x xs front last (subst (λ (o : List (ℤ × ℤ)). T (is_sorted int_cmp o)) e h)
    (subst (λ (u : List (ℤ × ℤ)). T (is_sorted int_cmp u)) f k) less
    ∙ ap (λ (u : List (ℤ × ℤ)). u ++ x ∷ xs) (sym f) ∙ ap (λ (o : List (ℤ × ℤ)). under ++ o) (sym e)

-- what is laid over samples is found first
pub find-laid_times : (t : ℤ) (over under : List (ℤ × ℤ))
    → find int_cmp t (laid_times over under) ≡ or_else (find int_cmp t over) (find int_cmp t under)
find-laid_times t [] under = refl
find-laid_times t (s ∷ ss) under =
    find-put int_cmp int_cmp_total t s.0 s.1 (laid_times ss under)
    ∙ ap (cond (eq_by_cmp int_cmp t s.0) (Some s.1)) (find-laid_times t ss under)
    ∙ or_else_cond (eq_by_cmp int_cmp t s.0) s.1 (find int_cmp t ss) (find int_cmp t under)

or_else_assoc : (x y z : Option ℤ) → or_else (or_else x y) z ≡ or_else x (or_else y z)
or_else_assoc None y z = refl
or_else_assoc (Some v) y z = refl

-- it does not matter which two of three lists of samples are laid over each other first
pub laid_times-assoc : (a b c : List (ℤ × ℤ)) → T (is_sorted int_cmp c)
    → laid_times (laid_times a b) c ≡ laid_times a (laid_times b c)
laid_times-assoc a b c h =
    let at = λ (t : ℤ) (ss : List (ℤ × ℤ)). find int_cmp t ss in
    same_entries int_cmp int_cmp_total int_cmp-IsAntisymmetric (laid_times (laid_times a b) c)
    (laid_times a (laid_times b c))
    (is_sorted-laid_times (laid_times a b) c h)
    (is_sorted-laid_times a (laid_times b c) (is_sorted-laid_times b c h))
    (λ t. find-laid_times t (laid_times a b) c
    ∙ ap (λ o. or_else o (at t c)) (find-laid_times t a b)
    ∙ or_else_assoc (at t a) (at t b) (at t c)
    ∙ ap (or_else (at t a)) (sym (find-laid_times t b c))
    ∙ sym (find-laid_times t a (laid_times b c)))

-- what is laid over nothing
pub laid-over_none : (over under : List (ℤ × ℤ)) → length under ≡ 0 → T (is_sorted int_cmp over)
    → laid_times over under ≡ under ++ over
laid-over_none over [] none h = laid-nil over h
laid-over_none over (y ∷ ys) none h = absurd (omega (arith, none))

below-behind : (t : ℤ) (front back : List (ℤ × ℤ)) → T (below_all int_cmp t (front ++ back))
    → T (below_all int_cmp t back)
below-behind t [] back h = h
below-behind t (x ∷ xs) back h = below-behind t xs back (second_T _ _ h)

below-front : (t : ℤ) (front back : List (ℤ × ℤ)) → T (below_all int_cmp t (front ++ back))
    → T (below_all int_cmp t front)
below-front t [] back h = tt
below-front t (x ∷ xs) back h = both_T _ _ (first_T _ _ h) (below-front t xs back (second_T _ _ h))

pub sorted-front : (front back : List (ℤ × ℤ)) → T (is_sorted int_cmp (front ++ back))
    → T (is_sorted int_cmp front)
sorted-front [] back h = tt
sorted-front (x ∷ xs) back h =
    both_T _ _ (below-front x.0 xs back (first_T _ _ h)) (sorted-front xs back (second_T _ _ h))

-- samples behind which others stand in time order are under them as they stand
pub laid-append : (over under : List (ℤ × ℤ)) → T (is_sorted int_cmp (under ++ over))
    → laid_times over under ≡ under ++ over
laid-append over [] h = laid-nil over h
laid-append over (y ∷ ys) h =
    laid-under y over ys (below-behind y.0 ys over (first_T _ _ h))
    ∙ ap (λ (ss : List (ℤ × ℤ)). y ∷ ss) (laid-append over ys (second_T _ _ h))

pub put_some : (t v : ℤ) (es : List (ℤ × ℤ)) → put int_cmp t v es ≡ [] → ⊥
put_some t v [] e = not_cons (t, v) [] e
put_some t v (x ∷ xs) e =
    elim (int_cmp t x.0)
    as (λ o. by_order o ((t, v) ∷ x ∷ xs) ((x.0, v) ∷ xs) (x ∷ put int_cmp t v xs) ≡ [] → ⊥) [
      | Less ↦ λ h. not_cons (t, v) (x ∷ xs) h
      | Equal ↦ λ h. not_cons (x.0, v) xs h
      | Greater ↦ λ h. not_cons x (put int_cmp t v xs) h
    ] e
