-- A walk over several lists of rows, one label set after another.
use Rattle.std.proofs.Common.{◌≡◌, ◌<◌, ℤ, T, true, false, cond, None, Some, Option, List, [], ◌∷◌, ◌++◌, length, get_or, refl, sym, ◌∙◌, ap, subst, arith, append_assoc}
use Rattle.std.specs.Prelude.{◌≢◌, map}
use Rattle.std.specs.Borrow.{Bor}
use Rattle.std.specs.List.{All}
use Rattle.std.specs.List.Sorted.{IsSortedBy}
use Rattle.std.specs.declared.cmp.Ordering.TheVariants.{Less}
use Rattle.std.specs.Ordering.{int_cmp, is_lt, is_eq}
use Rattle.std.specs.FinMap.Entries.{find, is_sorted, below_all}
use Rattle.std.proofs.lemmas.List.{append-nil}
use Rattle.std.proofs.lemmas.List.Elements.{All-nil, All-cons, All-head, All-tail, All-push}
use Rattle.labels.specs.Labels.{Labels, Point, labels_cmp, point_cmp, same_labels}
use Rattle.labels.specs.Contents.{Content}
use Rattle.labels.specs.Rows.{Row, points_in, points_of, IsFull, AreRows, row_before}
use Rattle.labels.specs.Parts.{laid_over}
use Rattle.labels.proofs.OrderLaws.{labels_exact, same_self}
use Rattle.labels.proofs.Times.{both_T, first_T, second_T, T_of}
use Rattle.labels.proofs.ContentLaws.{or_else, or_else_none, find-++, find-points_in, find-laid_over, is_sorted-laid_over, same_content}
use Rattle.labels.proofs.SortedRows.{is_sorted-points_of, all_full}
use Rattle.series_merge.specs.Merging.{laid_times, laid_all}
use Rattle.series_merge.specs.Walking.{IsLeast, StartsFrom, all_rows, behind, front_of, fronts}
use Rattle.series_merge.proofs.LaidTimes.{less_is, find-laid_times, put_some}
use Rattle.series_merge.proofs.Contents.{points_of-++}
use Rattle.series_merge.proofs.LaidRows.{Rises, is_sorted-laid_all}
use Rattle.series_merge.proofs.Fronts.{Has, is_equal, front-behind, front-has, fronts-has, counts, fronts-all, behind-all}
use Rattle.series_merge.proofs.Least.{Above, all-above, all-sorted}

-- what rows list
abbrev pub listed : List Row → Content
listed rows = laid_over (points_of rows) []

-- the sample that rows list first at a point
abbrev at : Point → List Row → Option ℤ
at q rows = find point_cmp q (points_of rows)

at-++ : (q : Point) (xs ys : List Row) → at q (xs ++ ys) ≡ or_else (at q xs) (at q ys)
at-++ q xs ys = ap (find point_cmp q) (points_of-++ xs ys) ∙ find-++ q (points_of xs) (points_of ys)

at-listed : (q : Point) (rows : List Row) → find point_cmp q (listed rows) ≡ at q rows
at-listed q rows = find-laid_over q (points_of rows) [] ∙ or_else_none (at q rows)

at-has : (l : Labels) (t : ℤ) (g : List Row) → All (Has l) g
    → at (l, t) g ≡ find int_cmp t (laid_all g)
at-has l t [] h = refl
at-has l t (r ∷ rs) h =
    let same : same_labels l r.0 ≡ true =
    ap (same_labels l) (All-head (Has l) r rs h) ∙ same_self l in
    find-++ (l, t) (points_in r.0 r.1) (points_of rs)
    ∙ ap (λ o. or_else o (at (l, t) rs)) (find-points_in l t r.0 r.1
    ∙ ap (λ b. cond b (find int_cmp t r.1) None) same)
    ∙ ap (or_else (find int_cmp t r.1)) (at-has l t rs (All-tail (Has l) r rs h))
    ∙ sym (find-laid_times t r.1 (laid_all rs))

at-other : (q : Point) (l : Labels) (g : List Row) → same_labels q.0 l ≡ false → All (Has l) g
    → at q g ≡ None
at-other q l [] other h = refl
at-other q l (r ∷ rs) other h =
    find-++ q (points_in r.0 r.1) (points_of rs)
    ∙ ap (λ o. or_else o (at q rs)) (find-points_in q.0 q.1 r.0 r.1
    ∙ ap (λ b. cond b (find int_cmp q.1 r.1) None)
    (ap (same_labels q.0) (All-head (Has l) r rs h) ∙ other))
    ∙ at-other q l rs other (All-tail (Has l) r rs h)

at-above : (l : Labels) (t : ℤ) (rows : List Row) → T (below_all labels_cmp l rows)
    → at (l, t) rows ≡ None
at-above l t [] above = refl
at-above l t (r ∷ rs) above =
    find-++ (l, t) (points_in r.0 r.1) (points_of rs)
    ∙ ap (λ o. or_else o (at (l, t) rs)) (find-points_in l t r.0 r.1
    ∙ ap (λ o. cond (is_eq o) (find int_cmp t r.1) None)
    (less_is (labels_cmp l r.0) (first_T _ _ above)))
    ∙ at-above l t rs (second_T _ _ above)

none_first : (x y : Option ℤ) → or_else x y ≡ None → x ≡ None
none_first None y e = refl
none_first (Some v) y e = e

none_second : (x y : Option ℤ) → or_else x y ≡ None → y ≡ None
none_second None y e = e
none_second (Some v) y e = absurd cc

-- at another label set the lists have what is left
moved_other : (q : Point) (l : Labels) (ps : List (List Row)) → same_labels q.0 l ≡ false
    → at q (all_rows ps) ≡ at q (all_rows (map (behind l) ps))
moved_other q l [] other = refl
moved_other q l (p ∷ ps) other =
    let one : at q p ≡ at q (behind l p) =
    ap (at q) (front-behind l p)
    ∙ at-++ q (front_of l p) (behind l p)
    ∙ ap (λ o. or_else o (at q (behind l p))) (at-other q l (front_of l p) other (front-has l p)) in
    at-++ q p (all_rows ps)
    ∙ (λ i. or_else (one i) (moved_other q l ps other i))
    ∙ sym (at-++ q (behind l p) (all_rows (map (behind l) ps)))

-- at the label set, where what is left has nothing, they have what is taken
moved_same : (q : Point) (l : Labels) (ps : List (List Row))
    → at q (all_rows (map (behind l) ps)) ≡ None → at q (all_rows ps) ≡ at q (fronts l ps)
moved_same q l [] none = refl
moved_same q l (p ∷ ps) none =
    let left : List Row = all_rows (map (behind l) ps) in
    let both : or_else (at q (behind l p)) (at q left) ≡ None = sym (at-++ q (behind l p) left) ∙ none in
    let one : at q p ≡ at q (front_of l p) =
    ap (at q) (front-behind l p)
    ∙ at-++ q (front_of l p) (behind l p)
    ∙ ap (or_else (at q (front_of l p))) (none_first (at q (behind l p)) (at q left) both)
    ∙ or_else_none (at q (front_of l p)) in
    at-++ q p (all_rows ps)
    ∙ (λ i. or_else (one i) (moved_same q l ps (none_second (at q (behind l p)) (at q left) both) i))
    ∙ sym (at-++ q (front_of l p) (fronts l ps))

-- what is taken, before the rows of what is left
step_points : (l : Labels) (ps : List (List Row)) (tail : List Row)
    → points_of tail ≡ listed (all_rows (map (behind l) ps)) → T (below_all labels_cmp l tail)
    → All Rises tail → T (is_sorted labels_cmp tail)
    → points_of ((l, laid_all (fronts l ps)) ∷ tail) ≡ listed (all_rows ps)
step_points l ps tail is above rise up =
    let g : List Row = fronts l ps in
    let row : Row = (l, laid_all g) in
    let left : List Row = all_rows (map (behind l) ps) in
    let at_tail = λ (q : Point). ap (find point_cmp q) is ∙ at-listed q left in
    let here = λ (t : ℤ).
    ap (or_else (find int_cmp t (laid_all g))) (at-above l t tail above)
    ∙ or_else_none (find int_cmp t (laid_all g))
    ∙ sym (at-has l t g (fronts-has l ps))
    ∙ sym (moved_same (l, t) l ps (sym (at_tail (l, t)) ∙ at-above l t tail above)) in
    same_content (points_of (row ∷ tail)) (listed (all_rows ps))
    (is_sorted-points_of (row ∷ tail) (both_T _ _ above up)
    (All-cons Rises row tail (is_sorted-laid_all g) rise))
    (is_sorted-laid_over (points_of (all_rows ps)) [] tt)
    (λ q. find-++ q (points_in l (laid_all g)) (points_of tail)
    ∙ ap (λ o. or_else o (at q tail)) (find-points_in q.0 q.1 l (laid_all g))
    ∙ elim (same_labels q.0 l) as (λ b. same_labels q.0 l ≡ b
    → or_else (cond b (find int_cmp q.1 (laid_all g)) None) (at q tail) ≡ at q (all_rows ps)) [
      | true ↦ λ e. subst (λ (k : Labels).
          or_else (find int_cmp q.1 (laid_all g)) (at (k, q.1) tail) ≡ at (k, q.1) (all_rows ps))
          (sym (labels_exact q.0 l (is_equal (labels_cmp q.0 l) e))) (here q.1)
      | false ↦ λ e. at_tail q ∙ sym (moved_other q l ps e)
    ] refl
    ∙ sym (at-listed q (all_rows ps)))

laid_some : (over under : List (ℤ × ℤ)) → over ≢ [] → laid_times over under ≢ []
laid_some [] under full e = full refl
laid_some (s ∷ ss) under full e = put_some s.0 s.1 (laid_times ss under) e

full_all : (g : List Row) → All IsFull g → 0 < length g → laid_all g ≢ []
full_all [] full some e = omega (arith, some)
full_all (r ∷ rs) full some e = laid_some r.1 (laid_all rs) (All-head IsFull r rs full) e

-- the row comes after rows
abbrev AfterAll : List Row → Row → Type 0
AfterAll rows m = All (λ (r : Row). labels_cmp r.0 m.0 ≡ Less) rows

sorted-behind : (xs ys : List Row) → T (is_sorted labels_cmp (xs ++ ys)) → T (is_sorted labels_cmp ys)
sorted-behind [] ys h = h
sorted-behind (x ∷ xs) ys h = sorted-behind xs ys (second_T _ _ h)

below-push : (l : Labels) (rows : List Row) (row : Row) → T (below_all labels_cmp l rows)
    → labels_cmp l row.0 ≡ Less → T (below_all labels_cmp l (rows ++ row ∷ []))
below-push l [] row h less = both_T _ _ (T_of _ (ap is_lt less)) tt
below-push l (r ∷ rs) row h less = both_T _ _ (first_T _ _ h) (below-push l rs row (second_T _ _ h) less)

sorted-push : (rows : List Row) (row : Row) → T (is_sorted labels_cmp rows) → AfterAll rows row
    → T (is_sorted labels_cmp (rows ++ row ∷ []))
sorted-push [] row h after = tt
sorted-push (r ∷ rs) row h after =
    both_T _ _
    (below-push r.0 rs row (first_T _ _ h)
    (All-head (λ (x : Row). labels_cmp x.0 row.0 ≡ Less) r rs after))
    (sorted-push rs row (second_T _ _ h)
    (All-tail (λ (x : Row). labels_cmp x.0 row.0 ≡ Less) r rs after))

-- rows are those of the lists up to here: with the rows of what is left they are all rows, and what
-- is left comes after them
pub record IsSofar (found : List Row) (parts : List (List Row)) (rows : List Row) : Type 0 where
  pub rest : (tail : List Row) → points_of tail ≡ listed (all_rows parts) → All Rises tail
      → T (is_sorted labels_cmp (rows ++ tail)) → points_of (rows ++ tail) ≡ listed found
  pub full : All IsFull (all_rows parts)
  pub rows_full : All IsFull rows
  pub ascends : T (is_sorted labels_cmp rows)
  pub sorted : All (IsSortedBy row_before) parts
  pub after : All (AfterAll rows) (all_rows parts)

pub sofar_nothing : (parts : List (List Row)) → All IsFull (all_rows parts)
    → All (IsSortedBy row_before) parts → IsSofar (all_rows parts) parts []
sofar_nothing parts full sorted = record {
  rest = λ tail is rise up. is;
  full = full;
  rows_full = All-nil IsFull;
  ascends = tt;
  sorted = sorted;
  after = λ k d lt. All-nil (λ (r : Row). labels_cmp r.0 (get_or (all_rows parts) k d).0 ≡ Less);
}

-- the rows come before the label set that is taken
before_least : (l : Labels) (rows g : List Row) → All (Has l) g → All (AfterAll rows) g
    → 0 < length g → All (λ (r : Row). labels_cmp r.0 l ≡ Less) rows
before_least l rows [] has after some = absurd (omega (arith, some))
before_least l rows (m ∷ ms) has after some =
    subst (λ (k : Labels). All (λ (r : Row). labels_cmp r.0 k ≡ Less) rows)
    (All-head (Has l) m ms has) (All-head (AfterAll rows) m ms after)

-- one row more before the rest
after_more : (rows rest : List Row) (row : Row) → All (AfterAll rows) rest → All (Above row.0) rest
    → All (AfterAll (rows ++ row ∷ [])) rest
after_more rows [] row after above = All-nil (AfterAll (rows ++ row ∷ []))
after_more rows (m ∷ ms) row after above =
    All-cons (AfterAll (rows ++ row ∷ [])) m ms
    (All-push (λ (r : Row). labels_cmp r.0 m.0 ≡ Less) rows row
    (All-head (AfterAll rows) m ms after) (All-head (Above row.0) m ms above))
    (after_more rows ms row (All-tail (AfterAll rows) m ms after) (All-tail (Above row.0) m ms above))

sofar_row : (found : List Row) (old : List (List Row)) (before : List Row) (l : Labels)
    → IsSofar found old before → All (StartsFrom l) old → 0 < length (fronts l old)
    → IsSofar found (map (behind l) old) (before ++ (l, laid_all (fronts l old)) ∷ [])
sofar_row found old before l s from some =
    let g : List Row = fronts l old in
    let row : Row = (l, laid_all g) in
    let first = before_least l before g (fronts-has l old)
    (fronts-all (AfterAll before) l old s.after) some in
    record {
      rest = λ tail is rise up.
          let shape : (before ++ row ∷ []) ++ tail ≡ before ++ row ∷ tail =
          append_assoc before (row ∷ []) tail in
          let sorted : T (is_sorted labels_cmp (before ++ row ∷ tail)) =
          subst (λ (xs : List Row). T (is_sorted labels_cmp xs)) shape up in
          let own : T (is_sorted labels_cmp (row ∷ tail)) = sorted-behind before (row ∷ tail) sorted in
          ap points_of shape
          ∙ s.rest (row ∷ tail)
          (step_points l old tail is (first_T _ _ own) rise (second_T _ _ own))
          (All-cons Rises row tail (is_sorted-laid_all g) rise) sorted;
      full = behind-all IsFull l old s.full;
      rows_full = All-push IsFull before row s.rows_full
          (full_all g (fronts-all IsFull l old s.full) some);
      ascends = sorted-push before row s.ascends first;
      sorted = all-sorted l old s.sorted;
      after = after_more before (all_rows (map (behind l) old)) row
          (behind-all (AfterAll before) l old s.after) (all-above l old s.sorted from);
    }

-- one label set is taken from the lists, and its row is put behind the others
pub sofar_step : (found : List Row) (old new : List (List Row)) (before after alike : List Row)
    (row : Row) (l : Bor Labels) → IsSofar found old before → IsLeast (Some l) old
    → new ≡ map (behind l.now) old → alike ≡ fronts l.now old → row ≡ (l.now, laid_all alike)
    → after ≡ before ++ row ∷ [] → IsSofar found new after
sofar_step found old new before after alike row l s least left taken is put =
    let whole : after ≡ before ++ (l.now, laid_all (fronts l.now old)) ∷ [] =
    put
    ∙ ap (λ (r : Row). before ++ r ∷ []) is
    ∙ ap (λ (g : List Row). before ++ (l.now, laid_all g) ∷ []) taken in
    subst (λ (ps : List (List Row)). IsSofar found ps after) (sym left)
    (subst (λ (rows : List Row). IsSofar found (map (behind l.now) old) rows) (sym whole)
    (sofar_row found old before l.now s least.0 least.1))

pub left_less : (old new : List (List Row)) (l : Labels) → 0 < length (fronts l old)
    → new ≡ map (behind l) old → length (all_rows new) < length (all_rows old)
left_less old new l some left =
    let moved = ap (λ (ps : List (List Row)). length (all_rows ps)) left in
    omega (arith, moved, counts l old, some)

pub sofar_all : (found : List Row) (parts : List (List Row)) (rows : List Row)
    → IsSofar found parts rows → all_rows parts ≡ [] → AreRows rows (listed found)
sofar_all found parts rows s none = record {
  points = ap points_of (sym (append-nil rows))
      ∙ s.rest [] (ap listed (sym none)) (All-nil Rises)
      (subst (λ (xs : List Row). T (is_sorted labels_cmp xs)) (sym (append-nil rows)) s.ascends);
  ascending = s.ascends;
  full = all_full rows s.rows_full;
}
