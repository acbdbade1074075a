-- Laws of rows.
use Rattle.std.specs.Prelude.{◌≡◌, ◌≢◌, ℤ, false, cond, T, List, [], ◌∷◌, ◌++◌, refl}
use Rattle.std.specs.declared.cmp.Ordering.{Ordering}
use Rattle.std.specs.declared.cmp.Ordering.TheVariants.{Less, Equal, Greater}
use Rattle.std.specs.Ordering.{is_lt, is_eq}
use Rattle.std.specs.FinMap.Entries.{is_sorted, below_all}
use Rattle.std.proofs.Common.{sym, ◌∙◌, ap}
use Rattle.labels.specs.Labels.{Labels, labels_cmp}
use Rattle.labels.specs.Contents.{Content}
use Rattle.labels.specs.Rows.{Row, points_in, points_of, add_front, rows_of, IsFull, AreFull}
use Rattle.labels.specs.Rows.{AreRows}
use Rattle.labels.proofs.Times.{first_T, second_T}
use Rattle.labels.proofs.OrderLaws.{same_self}

lt_not_eq : (r : Ordering) → T (is_lt r) → is_eq r ≡ false
lt_not_eq Less p = refl
lt_not_eq Equal p = absurd p
lt_not_eq Greater p = absurd p

fresh : (l : Labels) (s : ℤ × ℤ) (rs : List Row) → T (below_all labels_cmp l rs) → add_front l s rs ≡ (l, s ∷ []) ∷ rs
fresh l s [] h = refl
fresh l s (r ∷ rs) h = ap (λ b. cond b ((l, s ∷ r.1) ∷ rs) ((l, s ∷ []) ∷ r ∷ rs)) (lt_not_eq (labels_cmp l r.0) (first_T _ _ h))

-- the samples of one row, before rows that are above it
grouped : (l : Labels) (s : ℤ × ℤ) (ss : List (ℤ × ℤ)) (rs : List Row) (c : Content) → rows_of c ≡ rs → T (below_all labels_cmp l rs) → rows_of (points_in l (s ∷ ss) ++ c) ≡ (l, s ∷ ss) ∷ rs
grouped l s [] rs c is below = ap (add_front l s) is ∙ fresh l s rs below
grouped l s (t ∷ ts) rs c is below =
    ap (add_front l s) (grouped l t ts rs c is below)
    ∙ ap (λ b. cond b ((l, s ∷ t ∷ ts) ∷ rs) ((l, s ∷ []) ∷ (l, t ∷ ts) ∷ rs)) (same_self l)

row_back : (r : Row) (rs : List Row) (c : Content) → IsFull r → rows_of c ≡ rs → T (below_all labels_cmp r.0 rs) → rows_of (points_in r.0 r.1 ++ c) ≡ r ∷ rs
row_back r rs c full is below =
    elim r.1 as (λ ss. ss ≢ [] → rows_of (points_in r.0 ss ++ c) ≡ (r.0, ss) ∷ rs) [
      | [] ↦ λ f. absurd (f refl)
      | s ∷ ss ↦ λ f. grouped r.0 s ss rs c is below
    ] full

pub rows_of-points_of : (rows : List Row) → T (is_sorted labels_cmp rows) → AreFull rows → rows_of (points_of rows) ≡ rows
rows_of-points_of [] ascending full = refl
rows_of-points_of (r ∷ rs) ascending full =
    row_back r rs (points_of rs) full.0 (rows_of-points_of rs (second_T _ _ ascending) full.1) (first_T _ _ ascending)

-- a content has one list of rows
pub same_rows : (xs ys : List Row) (c : Content) → AreRows xs c → AreRows ys c → xs ≡ ys
same_rows xs ys c p q =
    sym (rows_of-points_of xs p.ascending p.full)
    ∙ ap rows_of (p.points ∙ sym q.points)
    ∙ rows_of-points_of ys q.ascending q.full
