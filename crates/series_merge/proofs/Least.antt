-- The least label set with which sorted lists of rows begin.
use Rattle.std.proofs.Common.{◌≡◌, ℕ, ◌+◌, ◌<◌, true, false, cond, None, Some, Option, List, [], ◌∷◌, ◌++◌, length, take, get_or, refl, sym, ◌∙◌, ap, subst, arith, length-append}
use Rattle.std.specs.Prelude.{map}
use Rattle.std.specs.Borrow.{Bor}
use Rattle.std.specs.List.{All}
use Rattle.std.specs.List.Sorted.{IsSortedBy}
use Rattle.std.specs.declared.cmp.Ordering.TheVariants.{Less, Equal, Greater}
use Rattle.std.specs.Ordering.{is_lt, is_eq, ordering_reverse}
use Rattle.std.proofs.lemmas.Grind.{take_at_read}
use Rattle.std.proofs.lemmas.List.Elements.{All-nil, All-cons, All-head, All-tail, All-push, All-append, All-weaker}
use Rattle.labels.specs.Labels.{Labels, labels_cmp, same_labels}
use Rattle.labels.specs.Rows.{Row, row_before}
use Rattle.labels.specs.Laws.{labels_total}
use Rattle.labels.proofs.OrderLaws.{labels_exact, same_self}
use Rattle.labels.proofs.Times.{T_of, true_not_false}
use Rattle.labels.proofs.SortedRows.{sorted-tail, not_cons}
use Rattle.series_merge.specs.Walking.{IsLeast, StartsFrom, StartsWith, all_rows, behind, front_of, fronts}
use Rattle.series_merge.proofs.LaidTimes.{less_is}
use Rattle.series_merge.proofs.Fronts.{is_equal, all_rows-last, fronts-last}

-- the row has a greater label set
abbrev pub Above : Labels → Row → Type 0
Above l m = labels_cmp l m.0 ≡ Less

-- a label set that no other is before is above it, or the same
above_from : (l k m : Labels) → labels_cmp l k ≡ Less → is_lt (labels_cmp m k) ≡ false
    → labels_cmp l m ≡ Less
above_from l k m less low =
    elim (labels_cmp k m) as (λ o. labels_cmp k m ≡ o → labels_cmp l m ≡ Less) [
      | Less ↦ λ e. labels_total.trans l k m less e
      | Equal ↦ λ e. subst (λ (x : Labels). labels_cmp l x ≡ Less) (labels_exact k m e) less
      | Greater ↦ λ e. absurd (true_not_false
          (sym (ap is_lt (labels_total.antisymm m k ∙ ap ordering_reverse e)) ∙ low))
    ] refl

-- sorted rows of which the first is above a label set
above_all : (l : Labels) (r : Row) (rs : List Row) → IsSortedBy row_before (r ∷ rs) → Above l r
    → All (Above l) (r ∷ rs)
above_all l r [] up above = All-cons (Above l) r [] above (All-nil (Above l))
above_all l r (m ∷ ms) up above =
    All-cons (Above l) r (m ∷ ms) above
    (above_all l m ms (sorted-tail r (m ∷ ms) up)
    (above_from l r.0 m.0 above (up 0 r (omega arith) (omega arith))))

differs_above : (l m : Labels) → is_lt (labels_cmp m l) ≡ false → same_labels m l ≡ false
    → labels_cmp l m ≡ Less
differs_above l m low other =
    elim (labels_cmp m l) as (λ o. labels_cmp m l ≡ o → labels_cmp l m ≡ Less) [
      | Less ↦ λ e. absurd (true_not_false (sym (ap is_lt e) ∙ low))
      | Equal ↦ λ e. absurd (true_not_false (sym (ap is_eq e) ∙ other))
      | Greater ↦ λ e. labels_total.antisymm l m ∙ ap ordering_reverse e
    ] refl

-- behind a row of the label set no row has a lesser one
next_from : (l : Labels) (r : Row) (rs : List Row) → IsSortedBy row_before (r ∷ rs) → r.0 ≡ l
    → StartsFrom l rs
next_from l r [] up same = tt
next_from l r (m ∷ ms) up same =
    subst (λ (k : Labels). is_lt (labels_cmp m.0 k) ≡ false) same
    (up 0 r (omega arith) (omega arith))

-- behind the rows of the least label set others are above it
behind-above : (l : Labels) (p : List Row) → IsSortedBy row_before p → StartsFrom l p
    → All (Above l) (behind l p)
behind-above l [] up from = All-nil (Above l)
behind-above l (r ∷ rs) up from =
    elim (same_labels r.0 l)
    as (λ b. same_labels r.0 l ≡ b → All (Above l) (cond b (behind l rs) (r ∷ rs))) [
      | true ↦ λ e. behind-above l rs (sorted-tail r rs up)
          (next_from l r rs up (labels_exact r.0 l (is_equal (labels_cmp r.0 l) e)))
      | false ↦ λ e. above_all l r rs up (differs_above l r.0 from e)
    ] refl

behind-sorted : (l : Labels) (p : List Row) → IsSortedBy row_before p
    → IsSortedBy row_before (behind l p)
behind-sorted l [] up = up
behind-sorted l (r ∷ rs) up =
    elim (same_labels r.0 l) as (λ b. IsSortedBy row_before (cond b (behind l rs) (r ∷ rs))) [
      | true ↦ behind-sorted l rs (sorted-tail r rs up)
      | false ↦ up
    ]

pub all-above : (l : Labels) (ps : List (List Row)) → All (IsSortedBy row_before) ps
    → All (StartsFrom l) ps → All (Above l) (all_rows (map (behind l) ps))
all-above l [] up from = All-nil (Above l)
all-above l (p ∷ ps) up from =
    All-append (Above l) (behind l p) (all_rows (map (behind l) ps))
    (behind-above l p (All-head (IsSortedBy row_before) p ps up) (All-head (StartsFrom l) p ps from))
    (all-above l ps (All-tail (IsSortedBy row_before) p ps up) (All-tail (StartsFrom l) p ps from))

pub all-sorted : (l : Labels) (ps : List (List Row)) → All (IsSortedBy row_before) ps
    → All (IsSortedBy row_before) (map (behind l) ps)
all-sorted l [] up = All-nil (IsSortedBy row_before)
all-sorted l (p ∷ ps) up =
    All-cons (IsSortedBy row_before) (behind l p) (map (behind l) ps)
    (behind-sorted l p (All-head (IsSortedBy row_before) p ps up))
    (all-sorted l ps (All-tail (IsSortedBy row_before) p ps up))

-- the least label set of lists and one more
from_empty : (l : Labels) (ps : List (List Row)) → all_rows ps ≡ [] → All (StartsFrom l) ps
from_empty l [] none = All-nil (StartsFrom l)
from_empty l ([] ∷ ps) none = All-cons (StartsFrom l) [] ps tt (from_empty l ps none)
from_empty l ((r ∷ rs) ∷ ps) none = absurd (not_cons r (rs ++ all_rows ps) none)

front_some : (l : Labels) (p : List Row) → StartsWith l p → 0 < length (front_of l p)
front_some l [] starts = absurd starts
front_some l (r ∷ rs) starts =
    let same : same_labels r.0 l ≡ true = ap (λ (k : Labels). same_labels k l) starts ∙ same_self l in
    subst (λ b. 0 < length (cond b (r ∷ front_of l rs) [])) (sym same) (omega arith)

fronts_push : (l : Labels) (ps : List (List Row)) (p : List Row)
    → length (fronts l (ps ++ p ∷ [])) ≡ length (fronts l ps) + length (front_of l p)
fronts_push l ps p = ap length (fronts-last l ps p) ∙ length-append (fronts l ps) (front_of l p)

not_before_itself : (l : Labels) → is_lt (labels_cmp l l) ≡ false
not_before_itself l = ap is_lt (is_equal (labels_cmp l l) (same_self l))

from_same : (l : Labels) (p : List Row) → StartsWith l p → StartsFrom l p
from_same l [] starts = tt
from_same l (r ∷ rs) starts =
    ap (λ (k : Labels). is_lt (labels_cmp k l)) starts ∙ not_before_itself l

from_lesser : (l k : Labels) → labels_cmp k l ≡ Less → (p : List Row) → StartsFrom l p → StartsFrom k p
from_lesser l k less [] from = tt
from_lesser l k less (r ∷ rs) from =
    elim (labels_cmp r.0 k) as (λ o. labels_cmp r.0 k ≡ o → is_lt o ≡ false) [
      | Less ↦ λ e. absurd (true_not_false (sym (ap is_lt (labels_total.trans r.0 k l e less)) ∙ from))
      | Equal ↦ λ e. refl
      | Greater ↦ λ e. refl
    ] refl

-- a list without rows
pub least_without : (least : Option (Bor Labels)) (ps : List (List Row)) (p : List Row) → p ≡ []
    → IsLeast least ps → IsLeast least (ps ++ p ∷ [])
least_without None ps p none is = all_rows-last ps p ∙ (λ i. is i ++ none i)
least_without (Some l) ps p none is = (
  All-push (StartsFrom l.now) ps p is.0 (subst (StartsFrom l.now) (sym none) tt),
  omega (arith, fronts_push l.now ps p, is.1),
)

-- a list with rows, where there were none
pub least_first : (l : Bor Labels) (ps : List (List Row)) (p : List Row) → StartsWith l.now p
    → IsLeast None ps → IsLeast (Some l) (ps ++ p ∷ [])
least_first l ps p starts none = (
  All-push (StartsFrom l.now) ps p (from_empty l.now ps none) (from_same l.now p starts),
  omega (arith, fronts_push l.now ps p, front_some l.now p starts),
)

-- a list that begins with a lesser label set
pub least_lesser : (l k : Bor Labels) (ps : List (List Row)) (p : List Row) → StartsWith k.now p
    → is_lt (labels_cmp k.now l.now) ≡ true → IsLeast (Some l) ps → IsLeast (Some k) (ps ++ p ∷ [])
least_lesser l k ps p starts before is =
    let less : labels_cmp k.now l.now ≡ Less = less_is _ (T_of _ before) in (
      All-push (StartsFrom k.now) ps p
          (All-weaker (StartsFrom l.now) (StartsFrom k.now) (from_lesser l.now k.now less) ps is.0)
          (from_same k.now p starts),
      omega (arith, fronts_push k.now ps p, front_some k.now p starts),
    )

-- a list that begins with no lesser one
pub least_stays : (l k : Bor Labels) (ps : List (List Row)) (p : List Row) → StartsWith k.now p
    → is_lt (labels_cmp k.now l.now) ≡ false → IsLeast (Some l) ps → IsLeast (Some l) (ps ++ p ∷ [])
least_stays l k ps [] starts low is = absurd starts
least_stays l k ps (r ∷ rs) starts low is = (
  All-push (StartsFrom l.now) ps (r ∷ rs) is.0
      (ap (λ (x : Labels). is_lt (labels_cmp x l.now)) starts ∙ low),
  omega (arith, fronts_push l.now ps (r ∷ rs), is.1),
)

pub least_more : (least : Option (Bor Labels)) (ps : List (List Row)) (n : ℕ) (p : List Row)
    → n < length ps → p ≡ get_or ps n p → IsLeast least (take n ps ++ p ∷ [])
    → IsLeast least (take (n + 1) ps)
least_more least ps n p lt is h =
    subst (IsLeast least)
    (sym ((take_at_read ps n p lt).1 ∙ ap (λ (x : List Row). take n ps ++ x ∷ []) (sym is))) h
