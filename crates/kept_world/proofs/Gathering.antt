-- Rows in label order.
use Rattle.std.proofs.Common.{◌≡◌, ℕ, suc, ◌+◌, ◌<◌, ◌≤◌, ℤ, true, false, T, List, [], ◌∷◌, ◌++◌, None, Vec, length, map, filter, refl, sym, ap, ◌∙◌, arith, cond, nat_le, drop, get_or, length-append}
use Rattle.std.specs.Prelude.{◌==◌}
use Rattle.std.proofs.Math.Seq.{drop-cons}
use Rattle.std.specs.List.{AllByRecursion}
use Rattle.std.specs.declared.cmp.Ordering.{Ordering}
use Rattle.std.specs.declared.cmp.Ordering.TheVariants.{Less, Equal, Greater}
use Rattle.std.specs.Ordering.{match_ordering, is_lt, is_eq}
use Rattle.std.specs.BTreeMap.{insert_entry}
use Rattle.std.specs.FinMap.Entries.{put, by_order, is_sorted, below_all, is_sorted-put}
use Rattle.labels.specs.Labels.{Labels, labels_cmp}
use Rattle.labels.specs.Laws.{labels_total}
use Rattle.labels.specs.Rows.{Row}
use Rattle.labels.proofs.Times.{first_T, second_T}
use Rattle.kept_world.specs.States.{HeadSeries, gathered, leaving, rows_below}
use Rattle.kept_world.specs.Births.{came_row, came_by}
use Rattle.kept_world.specs.Sound.{IsAscending, AreApart, place_in}
use Rattle.kept_world.proofs.Apart.{none_of, few-filter, not_first, not_later}
use Rattle.kept_world.proofs.Growing.{came-cons}

-- an entry of a map of lists, as a row
abbrev pub row_of : {Z : Type 0} → Labels × Vec (ℤ × ℤ) Z → Row
row_of e = (e.0, e.1.items)

pub rows_insert : {Z : Type 0} (l : Labels) (v : Vec (ℤ × ℤ) Z) (es : List (Labels × Vec (ℤ × ℤ) Z)) → map row_of (insert_entry labels_cmp es l v) ≡ put labels_cmp l v.items (map row_of es)
rows_insert l v [] = refl
rows_insert l v (e ∷ es) =
    elim (labels_cmp l e.0) as (λ o. map row_of (match_ordering o ((l, v) ∷ e ∷ es) ((e.0, v) ∷ es) (e ∷ insert_entry labels_cmp es l v)) ≡ by_order o ((l, v.items) ∷ map row_of (e ∷ es)) ((e.0, v.items) ∷ map row_of es) (row_of e ∷ put labels_cmp l v.items (map row_of es))) [
      | Less ↦ refl
      | Equal ↦ refl
      | Greater ↦ ap (λ rs. row_of e ∷ rs) (rows_insert l v es)
    ]

pub sorted_put : (l : Labels) (ss : List (ℤ × ℤ)) (rows : List Row) → T (is_sorted labels_cmp rows) → T (is_sorted labels_cmp (put labels_cmp l ss rows))
sorted_put l ss rows h = is_sorted-put labels_cmp labels_total l ss rows h

pub ascending_put : (l : Labels) (ss : List (ℤ × ℤ)) (rows : List Row) → IsAscending (l, ss) → AllByRecursion IsAscending rows → AllByRecursion IsAscending (put labels_cmp l ss rows)
ascending_put l ss [] a h = (a, tt)
ascending_put l ss (r ∷ rs) a h =
    elim (labels_cmp l r.0) as (λ o. AllByRecursion IsAscending (by_order o ((l, ss) ∷ r ∷ rs) ((r.0, ss) ∷ rs) (r ∷ put labels_cmp l ss rs))) [
      | Less ↦ (a, h)
      | Equal ↦ (a, h.1)
      | Greater ↦ (h.0, ascending_put l ss rs a h.1)
    ]

pub gathered_some : (l : Labels) (ss : List (ℤ × ℤ)) (rows : List Row) → (ss ≡ [] → ⊥) → gathered l ss rows ≡ put labels_cmp l ss rows
gathered_some l [] rows h = absurd (h refl)
gathered_some l (s ∷ ss) rows h = refl

pub gathered_none : (l : Labels) (ss : List (ℤ × ℤ)) (rows : List Row) → ss ≡ [] → gathered l ss rows ≡ rows
gathered_none l [] rows h = refl
gathered_none l (s ∷ ss) rows h = absurd (let k : s ∷ ss ≡ [] = h in cc)

-- label sets in strict order are different ones
lt_apart : (o : Ordering) → T (is_lt o) → is_eq o ≡ false
lt_apart Less h = refl
lt_apart Equal h = absurd h
lt_apart Greater h = absurd h

below_none : (l : Labels) (rows : List Row) → T (below_all labels_cmp l rows) → place_in l (map (λ (r : Row). r.0) rows) ≡ None
below_none l [] h = refl
below_none l (r ∷ rs) h =
    none_of l r.0 (map (λ (x : Row). x.0) rs) (lt_apart (labels_cmp l r.0) (first_T _ _ h)) (below_none l rs (second_T _ _ h))

pub sorted_apart : (rows : List Row) → T (is_sorted labels_cmp rows) → AreApart (map (λ (r : Row). r.0) rows)
sorted_apart [] h = tt
sorted_apart (r ∷ rs) h = (below_none r.0 rs (first_T _ _ h), sorted_apart rs (second_T _ _ h))

-- HOW MANY ROWS

put_few : (l : Labels) (ss : List (ℤ × ℤ)) (rows : List Row) → length (put labels_cmp l ss rows) ≤ suc (length rows)
put_few l ss [] = omega arith
put_few l ss (r ∷ rs) =
    let k = put_few l ss rs in
    elim (labels_cmp l r.0) as (λ o. length (by_order o ((l, ss) ∷ r ∷ rs) ((r.0, ss) ∷ rs) (r ∷ put labels_cmp l ss rs)) ≤ suc (suc (length rs))) [
      | Less ↦ omega arith
      | Equal ↦ omega arith
      | Greater ↦ omega (arith, k)
    ]

gathered_few : (l : Labels) (ss : List (ℤ × ℤ)) (rows : List Row) → length (gathered l ss rows) ≤ suc (length rows)
gathered_few l [] rows = omega arith
gathered_few l (s ∷ ss) rows = put_few l (s ∷ ss) rows

pub below_few : (t : ℤ) (rows : List Row) (head : List HeadSeries) → length (rows_below t rows head) ≤ length rows + length head
below_few t rows [] = omega arith
below_few t rows (e ∷ es) =
    let a = gathered_few e.labels (leaving t e) rows in
    let b = below_few t (gathered e.labels (leaving t e) rows) es in
    omega (arith, a, b)

length-map : {A B : Type 0} (f : A → B) (xs : List A) → length (map f xs) ≡ length xs
length-map f [] = refl
length-map f (x ∷ xs) = ap suc (length-map f xs)

pub came_few : (p : ℕ) (head : List HeadSeries) → length (came_by p head) ≤ length head
came_few p head =
    let a = length-map (came_row p) (filter (λ (e : HeadSeries). nat_le e.born p) head) in
    let b = few-filter (λ (e : HeadSeries). nat_le e.born p) head in
    omega (arith, a, b)

pub came_room : (p : ℕ) (head : List HeadSeries) (i : ℕ) (e : HeadSeries) (rows : List Row) → i < length head → e ≡ get_or head i e → e.born ≤ p → rows ++ came_by p (drop i head) ≡ came_by p head → length rows < length head
came_room p head i e rows l is born h =
    let next : drop i head ≡ e ∷ drop (suc i) head = drop-cons head i e l ∙ ap (λ (x : HeadSeries). x ∷ drop (suc i) head) (sym is) in
    let yes : nat_le e.born p ≡ true = grind arith in
    let more : came_by p (drop i head) ≡ came_row p e ∷ came_by p (drop (suc i) head) =
    ap (came_by p) next ∙ came-cons p e (drop (suc i) head) ∙ ap (λ b. cond b (came_row p e ∷ came_by p (drop (suc i) head)) (came_by p (drop (suc i) head))) yes in
    let whole : length rows + length (came_row p e ∷ came_by p (drop (suc i) head)) ≡ length (came_by p head) =
    sym (length-append rows (came_row p e ∷ came_by p (drop (suc i) head))) ∙ ap (λ rs. length (rows ++ rs)) (sym more) ∙ ap length h in
    let few = came_few p head in
    omega (arith, whole, few)

pub not_empty : {A : Type 0} (xs : List A) → (length xs == 0) ≡ false → xs ≡ [] → ⊥
not_empty [] h e = let k : true ≡ false = h in cc
not_empty (x ∷ xs) h e = cc

pub apart_front : (xs ys : List Row) → AreApart (map (λ (r : Row). r.0) (xs ++ ys)) → AreApart (map (λ (r : Row). r.0) xs)
apart_front [] ys h = tt
apart_front (x ∷ xs) ys h = (front_none x.0 xs ys h.0, apart_front xs ys h.1)
  where
    front_none : (l : Labels) (xs ys : List Row) → place_in l (map (λ (r : Row). r.0) (xs ++ ys)) ≡ None → place_in l (map (λ (r : Row). r.0) xs) ≡ None
    front_none l [] ys k = refl
    front_none l (x ∷ xs) ys k =
        none_of l x.0 (map (λ (r : Row). r.0) xs) (not_first l x.0 (map (λ (r : Row). r.0) (xs ++ ys)) k)
        (front_none l xs ys (not_later l x.0 (map (λ (r : Row). r.0) (xs ++ ys)) k))
