-- Samples that are put over those of runs.
use Rattle.std.specs.Prelude.{◌≡◌, ◌+◌, suc, ℤ, Bool, true, false, cond, T, List, [], ◌∷◌, ◌++◌}
use Rattle.std.specs.Prelude.{Some, length, reverse, refl}
use Rattle.std.specs.Bool.{OnTrue}
use Rattle.std.specs.declared.cmp.Ordering.{Ordering}
use Rattle.std.specs.declared.cmp.Ordering.TheVariants.{Less, Equal, Greater}
use Rattle.std.specs.Ordering.{int_cmp, is_lt, is_eq, eq_by_cmp, ordering_then}
use Rattle.std.specs.Cmp.{tied_itself}
use Rattle.std.specs.FinMap.Entries.{put, find, find-put, is_sorted, below_all, is_sorted-put}
use Rattle.std.proofs.Common.{sym, ap, subst, ◌∙◌, arith, length-append}
use Rattle.std.proofs.lemmas.Cmp.{int_cmp_total}
use Rattle.std.proofs.lemmas.List.{reverse-append}
use Rattle.labels.specs.Labels.{Labels, Point, point_cmp}
use Rattle.labels.specs.Contents.{Content}
use Rattle.labels.specs.Rows.{Row, points_in, points_of}
use Rattle.labels.specs.Parts.{laid_over}
use Rattle.labels.proofs.ContentLaws.{is_sorted-laid_over, same_content, labels_self}
use Rattle.labels.proofs.OrderLaws.{point_total, point_exact}
use Rattle.labels.proofs.Times.{both_T, first_T, second_T, T_of, true_not_false}
use Rattle.exposition.specs.Runs.{GoesOn, content_of, count_of, IsPut}

less_is : (o : Ordering) → T (is_lt o) → o ≡ Less
less_is Less h = refl
less_is Equal h = absurd h
less_is Greater h = absurd h

pub is_equal : (o : Ordering) → is_eq o ≡ true → o ≡ Equal
is_equal Less h = absurd (true_not_false (sym h))
is_equal Equal h = refl
is_equal Greater h = absurd (true_not_false (sym h))

either_first : {A : Type 0} (a b : Bool) (x y z : A) → (a ≡ true → b ≡ true → ⊥)
    → cond a x (cond b y z) ≡ cond b y (cond a x z)
either_first true true x y z apart = absurd (apart refl refl)
either_first true false x y z apart = refl
either_first false b x y z apart = refl

not_both : (p q z : Point) → point_cmp p q ≡ Less → eq_by_cmp point_cmp z p ≡ true
    → eq_by_cmp point_cmp z q ≡ true → ⊥
not_both p q z less a b =
    let e : z ≡ p = point_exact z p (is_equal (point_cmp z p) a) in
    let f : z ≡ q = point_exact z q (is_equal (point_cmp z q) b) in
    true_not_false
    (ap is_eq
    (sym (tied_itself point_total p) ∙ (ap (λ (x : Point). point_cmp p x) (sym e ∙ f) ∙ less)))

-- of two points it does not matter at which is put first
swapped : (p q : Point) (v w : ℤ) (c : Content) → T (is_sorted point_cmp c) → point_cmp p q ≡ Less
    → put point_cmp p v (put point_cmp q w c) ≡ put point_cmp q w (put point_cmp p v c)
swapped p q v w c h less =
    let with_p = put point_cmp p v c in
    let with_q = put point_cmp q w c in
    same_content (put point_cmp p v with_q) (put point_cmp q w with_p)
    (is_sorted-put point_cmp point_total p v with_q (is_sorted-put point_cmp point_total q w c h))
    (is_sorted-put point_cmp point_total q w with_p (is_sorted-put point_cmp point_total p v c h))
    (λ (z : Point).
    find-put point_cmp point_total z p v with_q
    ∙ ap (cond (eq_by_cmp point_cmp z p) (Some v)) (find-put point_cmp point_total z q w c)
    ∙ either_first (eq_by_cmp point_cmp z p) (eq_by_cmp point_cmp z q) (Some v) (Some w)
    (find point_cmp z c) (not_both p q z less)
    ∙ ap (cond (eq_by_cmp point_cmp z q) (Some w)) (sym (find-put point_cmp point_total z p v c))
    ∙ sym (find-put point_cmp point_total z q w with_p))

point_less : (l : Labels) (t u : ℤ) → int_cmp t u ≡ Less → point_cmp (l, t) (l, u) ≡ Less
point_less l t u less = ap (λ (o : Ordering). ordering_then o (int_cmp t u)) (labels_self l) ∙ less

below_last : (t : ℤ) (front : List (ℤ × ℤ)) (last : ℤ × ℤ)
    → T (below_all int_cmp t (front ++ last ∷ [])) → int_cmp t last.0 ≡ Less
below_last t [] last h = less_is _ (first_T _ _ h)
below_last t (e ∷ es) last h = below_last t es last (second_T _ _ h)

below_more : (t : ℤ) (ys : List (ℤ × ℤ)) (s : ℤ × ℤ) → T (below_all int_cmp t ys)
    → int_cmp t s.0 ≡ Less → T (below_all int_cmp t (ys ++ s ∷ []))
below_more t [] s h less = both_T _ _ (T_of _ (ap is_lt less)) tt
below_more t (y ∷ ys) s h less =
    both_T _ _ (first_T _ _ h) (below_more t ys s (second_T _ _ h) less)

-- times that ascend, and a later one
pub sorted_more : (xs : List (ℤ × ℤ)) (last s : ℤ × ℤ) → T (is_sorted int_cmp (xs ++ last ∷ []))
    → int_cmp last.0 s.0 ≡ Less → T (is_sorted int_cmp ((xs ++ last ∷ []) ++ s ∷ []))
sorted_more [] last s h less = both_T _ _ (both_T _ _ (T_of _ (ap is_lt less)) tt) tt
sorted_more (x ∷ xs) last s h less =
    both_T _ _
    (below_more x.0 (xs ++ last ∷ []) s (first_T _ _ h)
    (int_cmp_total.trans x.0 last.0 s.0 (below_last x.0 xs last (first_T _ _ h)) less))
    (sorted_more xs last s (second_T _ _ h) less)

-- a run with a sample behind it
extended : (l : Labels) (ss : List (ℤ × ℤ)) (s : ℤ × ℤ) (c : Content) → T (is_sorted point_cmp c)
    → T (is_sorted int_cmp (ss ++ s ∷ []))
    → laid_over (points_in l (ss ++ s ∷ [])) c
    ≡ put point_cmp (l, s.0) s.1 (laid_over (points_in l ss) c)
extended l [] s c h rise = refl
extended l (x ∷ xs) s c h rise =
    ap (put point_cmp (l, x.0) x.1) (extended l xs s c h (second_T _ _ rise))
    ∙ swapped (l, x.0) (l, s.0) x.1 s.1 (laid_over (points_in l xs) c)
    (is_sorted-laid_over (points_in l xs) c h)
    (point_less l x.0 s.0 (below_last x.0 xs s (first_T _ _ rise)))

laid_both : (xs ys c : Content) → laid_over (xs ++ ys) c ≡ laid_over xs (laid_over ys c)
laid_both [] ys c = refl
laid_both (x ∷ xs) ys c = ap (put point_cmp x.0 x.1) (laid_both xs ys c)

points_long : (l : Labels) (ss : List (ℤ × ℤ)) → length (points_in l ss) ≡ length ss
points_long l [] = refl
points_long l (s ∷ ss) = ap suc (points_long l ss)

reverse_last : (rest : List Row) (x : Row) → reverse (rest ++ x ∷ []) ≡ x ∷ reverse rest
reverse_last rest x = reverse-append rest (x ∷ [])

-- a run of one sample more
pub run_put : (l : Labels) (s : ℤ × ℤ) (runs : List Row)
    → IsPut l s runs (runs ++ (l, s ∷ []) ∷ [])
run_put l s runs =
    let r : Row = (l, s ∷ []) in
    let long : count_of (reverse (runs ++ r ∷ [])) ≡ suc (count_of (reverse runs)) =
    ap count_of (reverse_last runs r) in
    record {
      content = ap content_of (reverse_last runs r);
      count = omega (arith, long);
    }

-- the last run goes on
pub last_put : (l : Labels) (s : ℤ × ℤ) (runs : List Row) (r : Row) → GoesOn r l s
    → IsPut l s (runs ++ r ∷ []) (runs ++ (r.0, r.1 ++ s ∷ []) ∷ [])
last_put l s runs r goes =
    let longer : Row = (r.0, r.1 ++ s ∷ []) in
    let rest = points_of (reverse runs) in
    let one : count_of (reverse (runs ++ longer ∷ []))
    ≡ length (points_in r.0 (r.1 ++ s ∷ [])) + length rest =
    ap count_of (reverse_last runs longer) ∙ length-append (points_in r.0 (r.1 ++ s ∷ [])) rest in
    let two : count_of (reverse (runs ++ r ∷ [])) ≡ length (points_in r.0 r.1) + length rest =
    ap count_of (reverse_last runs r) ∙ length-append (points_in r.0 r.1) rest in
    record {
      content =
          ap content_of (reverse_last runs longer)
          ∙ laid_both (points_in r.0 (r.1 ++ s ∷ [])) rest []
          ∙ extended r.0 r.1 s (laid_over rest []) (is_sorted-laid_over rest [] tt) goes.1
          ∙ ap (put point_cmp (r.0, s.0) s.1) (sym (laid_both (points_in r.0 r.1) rest []))
          ∙ ap (λ (rs : List Row). put point_cmp (r.0, s.0) s.1 (content_of rs))
          (sym (reverse_last runs r))
          ∙ ap (λ (x : Labels). put point_cmp (x, s.0) s.1 (content_of (reverse (runs ++ r ∷ []))))
          goes.0;
      count =
          omega (
            arith,
            one,
            two,
            points_long r.0 (r.1 ++ s ∷ []),
            points_long r.0 r.1,
            length-append r.1 (s ∷ []),
          );
    }

-- what holds where a test is true
pub on_then : {A : Type 0} (b : Bool) → b ≡ true → OnTrue b A → A
on_then {A} b e h = subst (λ (x : Bool). OnTrue x A) e h

pub on_true : {A B : Type 0} (b : Bool) → (A → B) → OnTrue b A → OnTrue b B
on_true true f h = f h
on_true false f h = tt

pub sorted_from : (all : List (ℤ × ℤ)) (last : ℤ × ℤ) (front : List (ℤ × ℤ)) (s : ℤ × ℤ)
    → all ≡ front ++ last ∷ [] → T (is_sorted int_cmp all) → int_cmp last.0 s.0 ≡ Less
    → T (is_sorted int_cmp (all ++ s ∷ []))
sorted_from all last front s e h less =
    subst (λ (ss : List (ℤ × ℤ)). T (is_sorted int_cmp (ss ++ s ∷ []))) (sym e)
    (sorted_more front last s (subst (λ (ss : List (ℤ × ℤ)). T (is_sorted int_cmp ss)) e h) less)
