-- What is listed, put in order, is what is listed last at each point.
use Rattle.std.proofs.Common.{◌≡◌, ◌≢◌, ℕ, suc, ◌+◌, ℤ, pos, Bool, true, false, cond, not, ◌&&◌, T, List, [], ◌∷◌, Option, None, Some, length, get_or, reverse, refl, sym, ◌∙◌, ap, subst, arith}
use Rattle.std.specs.Prelude.{◌==◌}
use Rattle.std.specs.List.{filter, list_all, dedup, dedup_from}
use Rattle.std.specs.List.Sorted.{IsSortedBy, IsStableBy, ties}
use Rattle.std.specs.declared.cmp.Ordering.{Ordering}
use Rattle.std.specs.declared.cmp.Ordering.TheVariants.{Less, Equal, Greater}
use Rattle.std.specs.Ordering.{is_lt, is_eq, eq_by_cmp, ordering_reverse}
use Rattle.std.specs.Cmp.{IsStrictWeakOrder, Equal-is}
use Rattle.std.specs.FinMap.Entries.{find, put, is_sorted, below_all, find-put, is_sorted-put}
use Rattle.std.proofs.lemmas.Bool.Decides.{nat_tests}
use Rattle.std.proofs.lemmas.Grind.{reverse_onto}
use Rattle.std.proofs.lemmas.List.Elements.{filter_agree}
use Rattle.std.proofs.lemmas.List.Sorted.{ranks_by}
use Rattle.labels.specs.Labels.{Point, point_cmp}
use Rattle.labels.specs.Contents.{Content}
use Rattle.labels.specs.Rows.{Row, AreFull}
use Rattle.labels.proofs.OrderLaws.{point_total, point_exact}
use Rattle.labels.proofs.Times.{both_T, T_of}
use Rattle.labels.proofs.ContentLaws.{or_else, or_else_none, find-++, same_content}
use Rattle.reply_reader.proofs.Booleans.{and_left, and_right}
use Rattle.auditor.specs.Listing.{with_each, point_before, same_point}

abbrev pub Sample : Type 0
Sample = Point × ℤ

shadowed : (b : Bool) (x y z : Option ℤ) → cond b x z ≡ cond b x (cond b y z)
shadowed true x y z = refl
shadowed false x y z = refl

-- keeping the first of neighbours at one point loses no look-up
find-dedup_from : (q : Point) (k : Sample) (xs : List Sample)
    → find point_cmp q (dedup_from same_point k xs) ≡ find point_cmp q (k ∷ xs)
find-dedup_from q k [] = refl
find-dedup_from q k (x ∷ xs) =
    elim (same_point x k) as (λ b. same_point x k ≡ b
    → find point_cmp q (cond b (dedup_from same_point k xs) (k ∷ dedup_from same_point x xs))
    ≡ find point_cmp q (k ∷ x ∷ xs)) [
      | true ↦ λ e.
          let same : x.0 ≡ k.0 = point_exact x.0 k.0 ((Equal-is (point_cmp x.0 k.0)).0 e) in
          find-dedup_from q k xs
          ∙ shadowed (eq_by_cmp point_cmp q k.0) (Some k.1) (Some x.1) (find point_cmp q xs)
          ∙ ap (λ (p : Point). cond (eq_by_cmp point_cmp q k.0) (Some k.1)
          (cond (eq_by_cmp point_cmp q p) (Some x.1) (find point_cmp q xs))) (sym same)
      | false ↦ λ e. ap (cond (eq_by_cmp point_cmp q k.0) (Some k.1)) (find-dedup_from q x xs)
    ] refl

pub find-dedup : (q : Point) (xs : List Sample)
    → find point_cmp q (dedup same_point xs) ≡ find point_cmp q xs
find-dedup q [] = refl
find-dedup q (x ∷ xs) = find-dedup_from q x xs

pub before_order : IsStrictWeakOrder point_before
before_order = ranks_by point_total (λ (x : Sample). x.0)

-- no sample is before the one that it follows
abbrev WeaklyUp : List Sample → Type 0
WeaklyUp [] = Unit {0}
WeaklyUp (x ∷ []) = Unit {0}
WeaklyUp (x ∷ y ∷ ys) = (point_before y x ≡ false) × WeaklyUp (y ∷ ys)

sorted-tail : (x : Sample) (xs : List Sample) → IsSortedBy point_before (x ∷ xs)
    → IsSortedBy point_before xs
sorted-tail x xs up = λ k d low h.
    let e : suc (k + 1) ≡ (k + 1) + 1 = omega arith in
    let f : suc k ≡ k + 1 = omega arith in
    let at : point_before (get_or (x ∷ xs) ((k + 1) + 1) d) (get_or (x ∷ xs) (k + 1) d) ≡ false =
    up (k + 1) d (omega arith) (omega (arith, h)) in
    subst (λ (n : ℕ). point_before (get_or (x ∷ xs) (suc (k + 1)) d) (get_or (x ∷ xs) n d) ≡ false)
    (sym f)
    (subst (λ (n : ℕ). point_before (get_or (x ∷ xs) n d) (get_or (x ∷ xs) (k + 1) d)
    ≡ false) (sym e) at)

weakly_up : (xs : List Sample) → IsSortedBy point_before xs → WeaklyUp xs
weakly_up [] up = tt
weakly_up (x ∷ []) up = tt
weakly_up (x ∷ y ∷ ys) up =
    (up 0 x (omega arith) (omega arith), weakly_up (y ∷ ys) (sorted-tail x (y ∷ ys) up))

-- another first sample of the same point
same_up : (x k : Sample) (xs : List Sample) → x.0 ≡ k.0 → WeaklyUp (x ∷ xs) → WeaklyUp (k ∷ xs)
same_up x k [] e h = tt
same_up x k (y ∷ ys) e h = (subst (λ (p : Point). is_lt (point_cmp y.0 p) ≡ false) e h.0, h.1)

less_by : (o : Ordering) → is_lt o ≡ false → is_eq o ≡ false → ordering_reverse o ≡ Less
less_by Less a b = cc
less_by Equal a b = cc
less_by Greater a b = refl

-- the list rises strictly, and what is below the first is below all
abbrev IsAbove : Sample → List Sample → Type 0
IsAbove k ys =
    T (is_sorted point_cmp ys)
    × ((p : Point) → point_cmp p k.0 ≡ Less → T (below_all point_cmp p ys))

above_dedup : (k : Sample) (xs : List Sample) → WeaklyUp (k ∷ xs)
    → IsAbove k (dedup_from same_point k xs)
above_dedup k [] h =
    (tt, λ p less. both_T (is_lt (point_cmp p k.0)) true (T_of _ (ap is_lt less)) tt)
above_dedup k (x ∷ xs) h =
    elim (same_point x k) as (λ b. same_point x k ≡ b
    → IsAbove k (cond b (dedup_from same_point k xs) (k ∷ dedup_from same_point x xs))) [
      | true ↦ λ e.
          let same : x.0 ≡ k.0 = point_exact x.0 k.0 ((Equal-is (point_cmp x.0 k.0)).0 e) in
          above_dedup k xs (same_up x k xs same h.1)
      | false ↦ λ e.
          let rest : IsAbove x (dedup_from same_point x xs) = above_dedup x xs h.1 in
          let less : point_cmp k.0 x.0 ≡ Less = point_total.antisymm k.0 x.0
          ∙ less_by (point_cmp x.0 k.0) h.0 e in (
            both_T (below_all point_cmp k.0 (dedup_from same_point x xs))
                (is_sorted point_cmp (dedup_from same_point x xs)) (rest.1 k.0 less) rest.0,
            λ p low.
                both_T (is_lt (point_cmp p k.0))
                (below_all point_cmp p (dedup_from same_point x xs))
                (T_of _ (ap is_lt low)) (rest.1 p (point_total.trans p k.0 x.0 low less)),
          )
    ] refl

pub sorted_dedup : (xs : List Sample) → IsSortedBy point_before xs
    → T (is_sorted point_cmp (dedup same_point xs))
sorted_dedup [] up = tt
sorted_dedup (x ∷ xs) up = (above_dedup x xs (weakly_up (x ∷ xs) up)).0

tied : (o : Ordering) → (not (is_lt o) && not (is_lt (ordering_reverse o))) ≡ is_eq o
tied Less = refl
tied Equal = refl
tied Greater = refl

ties_same : (x y : Sample) → ties point_before x y ≡ same_point x y
ties_same x y =
    ap (λ o. not (is_lt (point_cmp x.0 y.0)) && not (is_lt o)) (point_total.antisymm y.0 x.0)
    ∙ tied (point_cmp x.0 y.0)

-- a sample is found among those of its point
find-at : (q : Sample) (xs : List Sample)
    → find point_cmp q.0 xs ≡ find point_cmp q.0 (filter (same_point q) xs)
find-at q [] = refl
find-at q (x ∷ xs) =
    elim (same_point q x) as (λ b. same_point q x ≡ b → find point_cmp q.0 (x ∷ xs)
    ≡ find point_cmp q.0 (cond b (x ∷ filter (same_point q) xs) (filter (same_point q) xs))) [
      | true ↦ λ e. ap (cond (same_point q x) (Some x.1)) (find-at q xs)
      | false ↦ λ e. ap (λ b. cond b (Some x.1) (find point_cmp q.0 xs)) e ∙ find-at q xs
    ] refl

-- a stable sort keeps what is found
pub find-stable : (xs ys : List Sample) → IsStableBy point_before xs ys → (p : Point)
    → find point_cmp p ys ≡ find point_cmp p xs
find-stable xs ys stable p =
    let q : Sample = (p, pos 0) in
    find-at q ys
    ∙ ap (find point_cmp p)
    (sym (filter_agree (ties point_before q) (same_point q) (ties_same q) ys)
    ∙ stable q
    ∙ filter_agree (ties point_before q) (same_point q) (ties_same q) xs)
    ∙ sym (find-at q xs)

or_else_assoc : (x y z : Option ℤ) → or_else (or_else x y) z ≡ or_else x (or_else y z)
or_else_assoc None y z = refl
or_else_assoc (Some v) y z = refl

found_or : (b : Bool) (v : ℤ) (z : Option ℤ) → cond b (Some v) z ≡ or_else (cond b (Some v) None) z
found_or true v z = refl
found_or false v z = refl

-- what is put last is found first from behind
pub find-with_each : (q : Point) (es : List Sample) (c : Content)
    → find point_cmp q (with_each es c)
    ≡ or_else (find point_cmp q (reverse es)) (find point_cmp q c)
find-with_each q [] c = refl
find-with_each q (e ∷ es) c =
    find-with_each q es (put point_cmp e.0 e.1 c)
    ∙ ap (or_else (find point_cmp q (reverse es))) (find-put point_cmp point_total q e.0 e.1 c
    ∙ found_or (eq_by_cmp point_cmp q e.0) e.1 (find point_cmp q c))
    ∙ sym (or_else_assoc (find point_cmp q (reverse es))
    (cond (eq_by_cmp point_cmp q e.0) (Some e.1) None) (find point_cmp q c))
    ∙ ap (λ o. or_else o (find point_cmp q c))
    (sym (ap (find point_cmp q) (reverse_onto es e []) ∙ find-++ q (reverse es) (e ∷ [])))

is_sorted-with_each : (es : List Sample) (c : Content) → T (is_sorted point_cmp c)
    → T (is_sorted point_cmp (with_each es c))
is_sorted-with_each [] c h = h
is_sorted-with_each (e ∷ es) c h =
    is_sorted-with_each es (put point_cmp e.0 e.1 c)
    (is_sorted-put point_cmp point_total e.0 e.1 c h)

-- what is listed, from behind, in order, with the first at each point alone
pub last_is : (es sorted : List Sample) → IsSortedBy point_before sorted
    → IsStableBy point_before (reverse es) sorted → dedup same_point sorted ≡ with_each es []
last_is es sorted up stable =
    same_content (dedup same_point sorted) (with_each es []) (sorted_dedup sorted up)
    (is_sorted-with_each es [] tt)
    (λ q. find-dedup q sorted
    ∙ find-stable (reverse es) sorted stable q
    ∙ sym (find-with_each q es [] ∙ or_else_none (find point_cmp q (reverse es))))

full_row : (ss : List (ℤ × ℤ)) → not (length ss == 0) ≡ true → ss ≢ []
full_row ss h e =
    absurd (let f : not (length ss == 0) ≡ false =
    ap (λ (xs : List (ℤ × ℤ)). not (length xs == 0)) e in cc)

row_full : (ss : List (ℤ × ℤ)) → ss ≢ [] → not (length ss == 0) ≡ true
row_full [] h = absurd (h refl)
row_full (s ∷ ss) h = grind (arith, nat_tests)

pub all_full : (rows : List Row)
    → list_all (λ (row : Row). not (length row.1 == 0)) rows ≡ true → AreFull rows
all_full [] h = tt
all_full (r ∷ rs) h = (
  full_row r.1
      (and_left (not (length r.1 == 0)) (list_all (λ (row : Row). not (length row.1 == 0)) rs) h),
  all_full rs
      (and_right (not (length r.1 == 0)) (list_all (λ (row : Row). not (length row.1 == 0)) rs) h),
)

pub full_all : (rows : List Row) → AreFull rows
    → list_all (λ (row : Row). not (length row.1 == 0)) rows ≡ true
full_all [] h = refl
full_all (r ∷ rs) h = rw (row_full r.1 h.0) (full_all rs h.1)
