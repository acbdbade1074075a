-- Rows that are in order list what is listed last, where nothing else is listed.
use Rattle.std.proofs.Common.{◌≡◌, ℤ, true, T, List, [], ◌∷◌, ◌++◌, refl, sym, ◌∙◌, ap, subst}
use Rattle.std.proofs.Common.{append-nil, append_assoc}
use Rattle.std.specs.List.{list_all, All}
use Rattle.std.specs.declared.cmp.Ordering.{Ordering}
use Rattle.std.specs.declared.cmp.Ordering.TheVariants.{Less, Equal, Greater}
use Rattle.std.specs.Ordering.{int_cmp, is_lt, ordering_reverse}
use Rattle.std.specs.FinMap.Entries.{put, by_order, is_sorted, below_all}
use Rattle.std.proofs.lemmas.List.Elements.{All-cons, All-nil}
use Rattle.labels.specs.Labels.{Point, labels_cmp, point_cmp}
use Rattle.labels.specs.Contents.{Content}
use Rattle.labels.specs.Rows.{Row, points_of}
use Rattle.labels.proofs.OrderLaws.{point_total}
use Rattle.labels.proofs.SortedRows.{is_sorted-points_of}
use Rattle.labels.proofs.Times.{T_of, first_T, second_T}
use Rattle.cover.specs.declared.part_cover.PartAnswer.{PartAnswer}
use Rattle.reply_reader.proofs.Booleans.{and_left, and_right}
use Rattle.auditor.specs.Listing.{listed, with_each, last_listed}

less_is : (o : Ordering) → T (is_lt o) → o ≡ Less
less_is Less h = refl
less_is Equal h = absurd h
less_is Greater h = absurd h

-- a point that is below all of a list is below the one behind its front
below_one : (k : Point) (done : Content) (p : Point) (v : ℤ) (more : Content)
    → T (below_all point_cmp k (done ++ (p, v) ∷ more)) → T (is_lt (point_cmp k p))
below_one k [] p v more h = first_T (is_lt (point_cmp k p)) (below_all point_cmp k more) h
below_one k (d ∷ ds) p v more h =
    below_one k ds p v more
    (second_T (is_lt (point_cmp k d.0)) (below_all point_cmp k (ds ++ (p, v) ∷ more)) h)

-- a sample that is above all others goes behind them
put_last : (done : Content) (p : Point) (v : ℤ) (more : Content)
    → T (is_sorted point_cmp (done ++ (p, v) ∷ more)) → put point_cmp p v done
    ≡ done ++ (p, v) ∷ []
put_last [] p v more h = refl
put_last (d ∷ ds) p v more h =
    let rest : Content = ds ++ (p, v) ∷ more in
    let less : point_cmp d.0 p ≡ Less =
    less_is (point_cmp d.0 p) (below_one d.0 ds p v more
    (first_T (below_all point_cmp d.0 rest) (is_sorted point_cmp rest) h)) in
    let above : point_cmp p d.0 ≡ Greater = point_total.antisymm p d.0 ∙ ap ordering_reverse less in
    ap (λ o. by_order o ((p, v) ∷ d ∷ ds) ((d.0, v) ∷ ds) (d ∷ put point_cmp p v ds)) above
    ∙ ap (λ (c : Content). d ∷ c) (put_last ds p v more
    (second_T (below_all point_cmp d.0 rest) (is_sorted point_cmp rest) h))

-- samples in the order of their points, put one after another, stand as they were
stand_as_put : (es done : Content) → T (is_sorted point_cmp (done ++ es))
    → with_each es done ≡ done ++ es
stand_as_put [] done h = sym (append-nil done)
stand_as_put (e ∷ es) done h =
    ap (with_each es) (put_last done e.0 e.1 es h)
    ∙ stand_as_put es (done ++ e ∷ [])
    (subst (λ (c : Content). T (is_sorted point_cmp c)) (sym (append_assoc done (e ∷ []) es)) h)
    ∙ append_assoc done (e ∷ []) es

rising_times : (rows : List Row) → list_all (λ (row : Row). is_sorted int_cmp row.1) rows ≡ true
    → All (λ (r : Row). T (is_sorted int_cmp r.1)) rows
rising_times [] h = All-nil (λ (r : Row). T (is_sorted int_cmp r.1))
rising_times (r ∷ rs) h =
    let first = is_sorted int_cmp r.1 in
    let others = list_all (λ (row : Row). is_sorted int_cmp row.1) rs in
    All-cons (λ (x : Row). T (is_sorted int_cmp x.1)) r rs (T_of first (and_left first others h))
    (rising_times rs (and_right first others h))

-- rows in order that are all that is listed are what is listed last
pub listed_alone : (answers : List PartAnswer) (rows : List Row)
    → listed answers ≡ points_of rows → is_sorted labels_cmp rows ≡ true
    → list_all (λ (row : Row). is_sorted int_cmp row.1) rows ≡ true
    → points_of rows ≡ last_listed answers
listed_alone answers rows all order times =
    sym (ap (λ (c : Content). with_each c []) all
    ∙ stand_as_put (points_of rows) []
    (is_sorted-points_of rows (T_of (is_sorted labels_cmp rows) order) (rising_times rows times)))
