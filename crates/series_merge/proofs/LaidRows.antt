-- The samples of rows, laid over each other.
use Rattle.std.proofs.Common.{◌≡◌, ℕ, zero, suc, ◌-◌, ◌<◌, ◌≤◌, ℤ, T, List, [], ◌∷◌, ◌++◌, length, take, drop, get_or, refl, sym, ◌∙◌, ap, subst, arith}
use Rattle.std.specs.Ordering.{int_cmp}
use Rattle.std.specs.FinMap.Entries.{put, is_sorted}
use Rattle.std.proofs.Math.Seq.{drop-cons}
use Rattle.std.proofs.lemmas.List.{take-append-drop}
use Rattle.labels.specs.Labels.{Labels}
use Rattle.labels.specs.Contents.{Content}
use Rattle.labels.specs.Rows.{Row, points_in, points_of}
use Rattle.series_merge.specs.Merging.{laid_times, laid_all, oldest_first}
use Rattle.series_merge.proofs.LaidTimes.{laid_times-assoc, is_sorted-laid_times, laid-append, sorted-front}

-- the times of the row rise
abbrev pub Rises : Row → Type 0
Rises r = T (is_sorted int_cmp r.1)

pub is_sorted-laid_all : (rows : List Row) → T (is_sorted int_cmp (laid_all rows))
is_sorted-laid_all [] = tt
is_sorted-laid_all (r ∷ rs) = is_sorted-laid_times r.1 (laid_all rs) (is_sorted-laid_all rs)

laid_all-++ : (xs ys : List Row) → laid_all (xs ++ ys) ≡ laid_times (laid_all xs) (laid_all ys)
laid_all-++ [] ys = refl
laid_all-++ (r ∷ rs) ys =
    ap (laid_times r.1) (laid_all-++ rs ys)
    ∙ sym (laid_times-assoc r.1 (laid_all rs) (laid_all ys) (is_sorted-laid_all ys))

-- the two halves, laid over each other
pub laid_halves : (n : ℕ) (runs newer older : List Row) → newer ≡ take n runs → older ≡ drop n runs
    → laid_times (laid_all newer) (laid_all older) ≡ laid_all runs
laid_halves n runs newer older front back =
    sym (laid_all-++ newer older)
    ∙ ap (λ (xs : List Row). laid_all (xs ++ older)) front
    ∙ ap (λ (ys : List Row). laid_all (take n runs ++ ys)) back
    ∙ ap laid_all (take-append-drop n runs)

-- the last run but those that are laid comes after them
pub laid_more : (runs : List Row) (left : ℕ) (r : Row) (laid new : List (ℤ × ℤ)) → 0 < left
    → left ≤ length runs → r ≡ get_or runs (left - 1) r → laid ≡ laid_all (drop left runs)
    → laid_times r.1 laid ≡ laid ++ r.1 → new ≡ laid ++ r.1
    → new ≡ laid_all (drop (left - 1) runs)
laid_more runs zero r laid new some within at inv after put = absurd (omega (arith, some))
laid_more runs (suc n) r laid new some within at inv after put =
    let place : suc n - 1 ≡ n = omega arith in
    let front : drop n runs ≡ r ∷ drop (suc n) runs =
    drop-cons runs n r (omega (arith, within))
    ∙ ap (λ (x : Row). x ∷ drop (suc n) runs)
    (ap (λ (k : ℕ). get_or runs k r) (sym place) ∙ sym at) in
    put
    ∙ sym after
    ∙ ap (laid_times r.1) inv
    ∙ ap laid_all (sym front)
    ∙ ap (λ (k : ℕ). laid_all (drop k runs)) (sym place)

pub laid_rises : (runs : List Row) (laid : List (ℤ × ℤ)) → laid ≡ laid_all runs
    → T (is_sorted int_cmp laid)
laid_rises runs laid is =
    subst (λ (ss : List (ℤ × ℤ)). T (is_sorted int_cmp ss)) (sym is) (is_sorted-laid_all runs)

-- the samples of the rows, each row's in its order
abbrev gathered : List Row → List (ℤ × ℤ)
gathered [] = []
gathered (r ∷ rs) = r.1 ++ gathered rs

laid_times-++ : (xs ys zs : List (ℤ × ℤ)) → laid_times (xs ++ ys) zs ≡ laid_times xs (laid_times ys zs)
laid_times-++ [] ys zs = refl
laid_times-++ (x ∷ xs) ys zs = ap (put int_cmp x.0 x.1) (laid_times-++ xs ys zs)

laid_all-gathered : (rows : List Row) → laid_all rows ≡ laid_times (gathered rows) []
laid_all-gathered [] = refl
laid_all-gathered (r ∷ rs) =
    ap (laid_times r.1) (laid_all-gathered rs) ∙ sym (laid_times-++ r.1 (gathered rs) [])

-- the times and values of samples
abbrev unlabelled : Content → List (ℤ × ℤ)
unlabelled [] = []
unlabelled (e ∷ es) = (e.0.1, e.1) ∷ unlabelled es

unlabelled-++ : (xs ys : Content) → unlabelled (xs ++ ys) ≡ unlabelled xs ++ unlabelled ys
unlabelled-++ [] ys = refl
unlabelled-++ (x ∷ xs) ys = ap (λ (ss : List (ℤ × ℤ)). (x.0.1, x.1) ∷ ss) (unlabelled-++ xs ys)

unlabelled-in : (l : Labels) (ss : List (ℤ × ℤ)) → unlabelled (points_in l ss) ≡ ss
unlabelled-in l [] = refl
unlabelled-in l (s ∷ ss) = ap (λ (xs : List (ℤ × ℤ)). s ∷ xs) (unlabelled-in l ss)

unlabelled-of : (rows : List Row) → unlabelled (points_of rows) ≡ gathered rows
unlabelled-of [] = refl
unlabelled-of (r ∷ rs) =
    unlabelled-++ (points_in r.0 r.1) (points_of rs)
    ∙ (λ i. unlabelled-in r.0 r.1 i ++ unlabelled-of rs i)

-- rows that list the same, one after the other, lay the same
pub laid_alike : (xs ys : List Row) → points_of xs ≡ points_of ys → laid_all xs ≡ laid_all ys
laid_alike xs ys same =
    laid_all-gathered xs
    ∙ ap (λ (ss : List (ℤ × ℤ)). laid_times ss [])
    (sym (unlabelled-of xs) ∙ ap unlabelled same ∙ unlabelled-of ys)
    ∙ sym (laid_all-gathered ys)

-- samples that ascend, the last row first, are those laid over each other
pub laid_oldest : (rows : List Row) → T (is_sorted int_cmp (oldest_first rows))
    → oldest_first rows ≡ laid_all rows
laid_oldest [] h = refl
laid_oldest (r ∷ rs) h =
    sym (laid-append r.1 (oldest_first rs) h)
    ∙ ap (laid_times r.1) (laid_oldest rs (sorted-front (oldest_first rs) r.1 h))

-- one row more, from the last
pub oldest_more : (rows : List Row) (left : ℕ) (r : Row) (all new : List (ℤ × ℤ)) → 0 < left
    → left ≤ length rows → r ≡ get_or rows (left - 1) r → all ≡ oldest_first (drop left rows)
    → new ≡ all ++ r.1 → new ≡ oldest_first (drop (left - 1) rows)
oldest_more rows zero r all new some within at inv put = absurd (omega (arith, some))
oldest_more rows (suc n) r all new some within at inv put =
    let place : suc n - 1 ≡ n = omega arith in
    let front : drop n rows ≡ r ∷ drop (suc n) rows =
    drop-cons rows n r (omega (arith, within))
    ∙ ap (λ (x : Row). x ∷ drop (suc n) rows)
    (ap (λ (k : ℕ). get_or rows k r) (sym place) ∙ sym at) in
    put
    ∙ ap (λ (ss : List (ℤ × ℤ)). ss ++ r.1) inv
    ∙ ap oldest_first (sym front)
    ∙ ap (λ (k : ℕ). oldest_first (drop k rows)) (sym place)
