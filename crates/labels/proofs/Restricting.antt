-- A content restricted to the points that pass a test, part by part.
use Rattle.std.specs.Prelude.{◌≡◌, ℤ, Bool, true, false, cond, T, List, [], ◌∷◌, ◌++◌, Option, None, Some, map, refl, filter}
use Rattle.std.specs.declared.cmp.Ordering.TheVariants.{Equal}
use Rattle.std.specs.Ordering.{eq_by_cmp}
use Rattle.std.specs.Cmp.{Equal-is}
use Rattle.std.specs.FinMap.Entries.{find, put, where_key, is_sorted, find-put, is_sorted-put, find-where_key, is_sorted-where_key}
use Rattle.std.proofs.Common.{sym, ◌∙◌, ap}
use Rattle.labels.specs.Labels.{Labels, Point, point_cmp}
use Rattle.labels.specs.Contents.{Content}
use Rattle.labels.specs.Rows.{points_in, points_of}
use Rattle.labels.specs.Parts.{Part, rows_in, laid_over, over, part_kept}
use Rattle.labels.proofs.OrderLaws.{point_total, point_exact}
use Rattle.labels.proofs.ContentLaws.{same_content, is_sorted-laid_over}

abbrev pub kept : (Point → Bool) → Content → Content
kept p c = where_key {X = ℤ} point_cmp p c

alike : (p : Point → Bool) (q x : Point) → point_cmp q x ≡ Equal → p x ≡ p q
alike p q x e = ap p (sym (point_exact q x e))

pub find-kept : (p : Point → Bool) (q : Point) (c : Content) → find point_cmp q (kept p c) ≡ cond (p q) (find point_cmp q c) None
find-kept p q c = find-where_key point_cmp p q (alike p q) c

put_found : (a b e : Bool) (v : ℤ) (o : Option ℤ) → (e ≡ true → a ≡ b) → cond a (cond e (Some v) o) None ≡ cond e (cond b (Some v) None) (cond a o None)
put_found true true true v o same = refl
put_found true false true v o same = ap (λ c. cond c (Some v) None) (same refl)
put_found false true true v o same = ap (λ c. cond c (Some v) None) (same refl)
put_found false false true v o same = refl
put_found true b false v o same = refl
put_found false b false v o same = refl

kept_other : (b e : Bool) (v : ℤ) (o : Option ℤ) (x : Option ℤ) → b ≡ false → (e ≡ true → x ≡ None) → cond e (cond b (Some v) None) x ≡ x
kept_other b true v o x out none = ap (λ c. cond c (Some v) None) out ∙ sym (none refl)
kept_other b false v o x out none = refl

-- a sample that is put, and what is kept of it
pub kept-put : (p : Point → Bool) (k : Point) (v : ℤ) (c : Content) → T (is_sorted point_cmp c) → kept p (put point_cmp k v c) ≡ cond (p k) (put point_cmp k v (kept p c)) (kept p c)
kept-put p k v c h =
    let rising : T (is_sorted point_cmp (kept p (put point_cmp k v c))) = is_sorted-where_key point_cmp p (put point_cmp k v c) (is_sorted-put point_cmp point_total k v c h) in
    let found : (q : Point) → find point_cmp q (kept p (put point_cmp k v c)) ≡ cond (eq_by_cmp point_cmp q k) (cond (p k) (Some v) None) (cond (p q) (find point_cmp q c) None)
    = λ q. find-kept p q (put point_cmp k v c) ∙ ap (λ o. cond (p q) o None) (find-put point_cmp point_total q k v c)
    ∙ put_found (p q) (p k) (eq_by_cmp point_cmp q k) v (find point_cmp q c) (λ e. ap p (point_exact q k ((Equal-is (point_cmp q k)).0 e))) in
    elim (p k) as (λ b. p k ≡ b → kept p (put point_cmp k v c) ≡ cond b (put point_cmp k v (kept p c)) (kept p c)) [
      | true ↦ λ e. same_content _ _ rising (is_sorted-put point_cmp point_total k v (kept p c) (is_sorted-where_key point_cmp p c h))
          (λ q. found q ∙ (λ i. cond (eq_by_cmp point_cmp q k) (cond (e i) (Some v) None) (sym (find-kept p q c) i)) ∙ sym (find-put point_cmp point_total q k v (kept p c)))
      | false ↦ λ e. same_content _ _ rising (is_sorted-where_key point_cmp p c h)
          (λ q. found q ∙ kept_other (p k) (eq_by_cmp point_cmp q k) v None (cond (p q) (find point_cmp q c) None) e
          (λ same. ap (λ b. cond b (find point_cmp q c) None) (ap p (point_exact q k ((Equal-is (point_cmp q k)).0 same)) ∙ e))
          ∙ sym (find-kept p q c))
    ] refl

pub kept-laid_over : (p : Point → Bool) (es : List (Point × ℤ)) (c : Content) → T (is_sorted point_cmp c) → kept p (laid_over es c) ≡ laid_over (kept p es) (kept p c)
kept-laid_over p [] c h = refl
kept-laid_over p (e ∷ es) c h =
    kept-put p e.0 e.1 (laid_over es c) (is_sorted-laid_over es c h)
    ∙ ap (λ d. cond (p e.0) (put point_cmp e.0 e.1 d) d) (kept-laid_over p es c h)
    ∙ elim (p e.0) as (λ b. cond b (put point_cmp e.0 e.1 (laid_over (kept p es) (kept p c))) (laid_over (kept p es) (kept p c)) ≡ laid_over (cond b (e ∷ kept p es) (kept p es)) (kept p c)) [ true ↦ refl | false ↦ refl ]

pub kept-++ : (p : Point → Bool) (xs ys : Content) → kept p (xs ++ ys) ≡ kept p xs ++ kept p ys
kept-++ p [] ys = refl
kept-++ p (x ∷ xs) ys =
    ap (λ c. cond (p x.0) (x ∷ c) c) (kept-++ p xs ys)
    ∙ elim (p x.0) as (λ b. cond b (x ∷ (kept p xs ++ kept p ys)) (kept p xs ++ kept p ys) ≡ cond b (x ∷ kept p xs) (kept p xs) ++ kept p ys) [ true ↦ refl | false ↦ refl ]

pub kept-points_in : (p : Point → Bool) (l : Labels) (ss : List (ℤ × ℤ)) → kept p (points_in l ss) ≡ points_in l (filter (λ s. p (l, s.0)) ss)
kept-points_in p l [] = refl
kept-points_in p l (s ∷ ss) =
    ap (λ c. cond (p (l, s.0)) (((l, s.0), s.1) ∷ c) c) (kept-points_in p l ss)
    ∙ elim (p (l, s.0)) as (λ b. cond b (((l, s.0), s.1) ∷ points_in l (filter (λ s. p (l, s.0)) ss)) (points_in l (filter (λ s. p (l, s.0)) ss)) ≡ points_in l (cond b (s ∷ filter (λ s. p (l, s.0)) ss) (filter (λ s. p (l, s.0)) ss))) [ true ↦ refl | false ↦ refl ]

pub kept-points_of : (p : Point → Bool) (part : Part) → kept p (points_of (rows_in part)) ≡ points_of (rows_in (part_kept p part))
kept-points_of p [] = refl
kept-points_of p (r ∷ rs) =
    kept-++ p (points_in r.1.0 r.1.1) (points_of (rows_in rs))
    ∙ (λ i. kept-points_in p r.1.0 r.1.1 i ++ kept-points_of p rs i)

-- what passes of the content of parts is the content of what passes of each part
pub kept-over : (p : Point → Bool) (parts : List Part) (c : Content) → T (is_sorted point_cmp c) → kept p (over c parts) ≡ over (kept p c) (map (part_kept p) parts)
kept-over p [] c h = refl
kept-over p (part ∷ parts) c h =
    kept-over p parts (laid_over (points_of (rows_in part)) c) (is_sorted-laid_over (points_of (rows_in part)) c h)
    ∙ ap (λ d. over d (map (part_kept p) parts)) (kept-laid_over p (points_of (rows_in part)) c h ∙ ap (λ es. laid_over es (kept p c)) (kept-points_of p part))
