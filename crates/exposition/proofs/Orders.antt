-- Samples that are put over others, one after another.
use Rattle.std.specs.Prelude.{◌≡◌, ℕ, ◌+◌, ◌<◌, ℤ, List, [], ◌∷◌, ◌++◌, length, reverse, take}
use Rattle.std.specs.Prelude.{get_or, refl}
use Rattle.std.specs.FinMap.Entries.{put}
use Rattle.std.proofs.Common.{sym, ap, subst, ◌∙◌, append_assoc, arith, length-append}
use Rattle.std.proofs.lemmas.Grind.{take_at_read}
use Rattle.std.proofs.lemmas.List.{append-nil}
use Rattle.labels.specs.Labels.{Labels, Point, point_cmp}
use Rattle.labels.specs.Contents.{Content}
use Rattle.labels.specs.Rows.{Row, points_in, points_of}
use Rattle.exposition.specs.Runs.{content_of, count_of, IsPut}
use Rattle.exposition.specs.Rows.{put_each, ArePut, ArePutOf}

put_last : (c : Content) (l : Labels) (ss : List (ℤ × ℤ)) (s : ℤ × ℤ)
    → put_each c (points_in l (ss ++ s ∷ []))
    ≡ put point_cmp (l, s.0) s.1 (put_each c (points_in l ss))
put_last c l [] s = refl
put_last c l (x ∷ xs) s = put_last (put point_cmp (l, x.0) x.1 c) l xs s

put_both : (c : Content) (xs ys : List (Point × ℤ))
    → put_each c (xs ++ ys) ≡ put_each (put_each c xs) ys
put_both c [] ys = refl
put_both c (x ∷ xs) ys = put_both (put point_cmp x.0 x.1 c) xs ys

points_last : (rows : List Row) (r : Row)
    → points_of (rows ++ r ∷ []) ≡ points_of rows ++ points_in r.0 r.1
points_last [] r = append-nil (points_in r.0 r.1)
points_last (x ∷ xs) r =
    ap (λ (c : Content). points_in x.0 x.1 ++ c) (points_last xs r)
    ∙ sym (append_assoc (points_in x.0 x.1) (points_of xs) (points_in r.0 r.1))

points_long : (l : Labels) (ss : List (ℤ × ℤ)) → length (points_in l ss) ≡ length ss
points_long l [] = refl
points_long l (s ∷ ss) =
    let rest = points_long l ss in
    omega (arith, rest)

put_next : (l : Labels) (ss : List (ℤ × ℤ)) (s : ℤ × ℤ) (old mid new : List Row)
    → ArePut l ss old mid → IsPut l s mid new → ArePut l (ss ++ s ∷ []) old new
put_next l ss s old mid new h p = record {
  content =
      p.content
      ∙ ap (put point_cmp (l, s.0) s.1) h.content
      ∙ sym (put_last (content_of (reverse old)) l ss s);
  count = omega (arith, p.count, h.count, length-append ss (s ∷ []));
}

-- one sample more
pub put_more : (l : Labels) (ss : List (ℤ × ℤ)) (n : ℕ) (s : ℤ × ℤ) (old mid new : List Row)
    → n < length ss → s ≡ get_or ss n s → ArePut l (take n ss) old mid → IsPut l s mid new
    → ArePut l (take (n + 1) ss) old new
put_more l ss n s old mid new lt at h p =
    subst (λ (xs : List (ℤ × ℤ)). ArePut l xs old new)
    (sym ((take_at_read ss n s lt).1 ∙ ap (λ (x : ℤ × ℤ). take n ss ++ x ∷ []) (sym at)))
    (put_next l (take n ss) s old mid new h p)

row_next : (rows : List Row) (r : Row) (mid new : List Row) → ArePutOf rows mid
    → ArePut r.0 r.1 mid new → ArePutOf (rows ++ r ∷ []) new
row_next rows r mid new h p =
    let points = points_of rows in
    let long : count_of (rows ++ r ∷ []) ≡ length points + length (points_in r.0 r.1) =
    ap (λ (c : Content). length c) (points_last rows r)
    ∙ length-append points (points_in r.0 r.1) in
    record {
      content =
          p.content
          ∙ ap (λ (c : Content). put_each c (points_in r.0 r.1)) h.content
          ∙ sym (put_both [] points (points_in r.0 r.1))
          ∙ ap (put_each []) (sym (points_last rows r));
      count = omega (arith, p.count, h.count, long, points_long r.0 r.1);
    }

-- one row more
pub row_more : (rows : List Row) (n : ℕ) (r : Row) (mid new : List Row) → n < length rows
    → r ≡ get_or rows n r → ArePutOf (take n rows) mid → ArePut r.0 r.1 mid new
    → ArePutOf (take (n + 1) rows) new
row_more rows n r mid new lt at h p =
    subst (λ (rs : List Row). ArePutOf rs new)
    (sym ((take_at_read rows n r lt).1 ∙ ap (λ (x : Row). take n rows ++ x ∷ []) (sym at)))
    (row_next (take n rows) r mid new h p)
