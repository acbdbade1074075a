-- The rows that come first in lists and have one label set, and the others.
use Rattle.std.proofs.Common.{◌≡◌, ℕ, suc, ◌+◌, ◌<◌, true, false, cond, List, [], ◌∷◌, ◌++◌, length, take, get_or, refl, sym, ◌∙◌, ap, subst, arith, append_assoc, length-append}
use Rattle.std.specs.Prelude.{map}
use Rattle.std.specs.List.{All}
use Rattle.std.specs.declared.cmp.Ordering.{Ordering}
use Rattle.std.specs.declared.cmp.Ordering.TheVariants.{Less, Equal, Greater}
use Rattle.std.specs.Ordering.{is_eq}
use Rattle.std.proofs.lemmas.Grind.{take_at_read}
use Rattle.std.proofs.lemmas.List.{append-nil}
use Rattle.std.proofs.lemmas.List.Elements.{All-nil, All-cons, All-head, All-tail, All-append}
use Rattle.labels.specs.Labels.{Labels, labels_cmp, same_labels}
use Rattle.labels.specs.Rows.{Row}
use Rattle.labels.proofs.OrderLaws.{labels_exact}
use Rattle.labels.proofs.Times.{true_not_false}
use Rattle.series_merge.specs.Walking.{all_rows, behind, front_of, fronts}

pub is_equal : (o : Ordering) → is_eq o ≡ true → o ≡ Equal
is_equal Less h = absurd (true_not_false (sym h))
is_equal Equal h = refl
is_equal Greater h = absurd (true_not_false (sym h))

-- the row has the label set
abbrev pub Has : Labels → Row → Type 0
Has l r = r.0 ≡ l

pub front-behind : (l : Labels) (p : List Row) → p ≡ front_of l p ++ behind l p
front-behind l [] = refl
front-behind l (r ∷ rs) =
    elim (same_labels r.0 l)
    as (λ b. r ∷ rs ≡ cond b (r ∷ front_of l rs) [] ++ cond b (behind l rs) (r ∷ rs)) [
      | true ↦ ap (λ (xs : List Row). r ∷ xs) (front-behind l rs)
      | false ↦ refl
    ]

pub front-has : (l : Labels) (p : List Row) → All (Has l) (front_of l p)
front-has l [] = All-nil (Has l)
front-has l (r ∷ rs) =
    elim (same_labels r.0 l)
    as (λ b. same_labels r.0 l ≡ b → All (Has l) (cond b (r ∷ front_of l rs) [])) [
      | true ↦ λ e. All-cons (Has l) r (front_of l rs) (labels_exact r.0 l (is_equal (labels_cmp r.0 l) e)) (front-has l rs)
      | false ↦ λ e. All-nil (Has l)
    ] refl

pub fronts-has : (l : Labels) (ps : List (List Row)) → All (Has l) (fronts l ps)
fronts-has l [] = All-nil (Has l)
fronts-has l (p ∷ ps) = All-append (Has l) (front_of l p) (fronts l ps) (front-has l p) (fronts-has l ps)

pub counts : (l : Labels) (ps : List (List Row))
    → length (all_rows ps) ≡ length (fronts l ps) + length (all_rows (map (behind l) ps))
counts l [] = refl
counts l (p ∷ ps) =
    let whole = length-append p (all_rows ps) in
    let one = ap length (front-behind l p) in
    let split = length-append (front_of l p) (behind l p) in
    let first = length-append (front_of l p) (fronts l ps) in
    let rest = length-append (behind l p) (all_rows (map (behind l) ps)) in
    let more = counts l ps in
    omega (arith, whole, one, split, first, rest, more)

all-left : (P : Row → Type 0) (xs ys : List Row) → All P (xs ++ ys) → All P xs
all-left P [] ys h = All-nil P
all-left P (x ∷ xs) ys h =
    All-cons P x xs (All-head P x (xs ++ ys) h) (all-left P xs ys (All-tail P x (xs ++ ys) h))

all-right : (P : Row → Type 0) (xs ys : List Row) → All P (xs ++ ys) → All P ys
all-right P [] ys h = h
all-right P (x ∷ xs) ys h = all-right P xs ys (All-tail P x (xs ++ ys) h)

-- what holds of all rows of lists, holds of those that are taken, and of those that are left
pub fronts-all : (P : Row → Type 0) (l : Labels) (ps : List (List Row)) → All P (all_rows ps)
    → All P (fronts l ps)
fronts-all P l [] h = All-nil P
fronts-all P l (p ∷ ps) h =
    All-append P (front_of l p) (fronts l ps)
    (all-left P (front_of l p) (behind l p)
    (subst (All P) (front-behind l p) (all-left P p (all_rows ps) h)))
    (fronts-all P l ps (all-right P p (all_rows ps) h))

pub behind-all : (P : Row → Type 0) (l : Labels) (ps : List (List Row)) → All P (all_rows ps)
    → All P (all_rows (map (behind l) ps))
behind-all P l [] h = All-nil P
behind-all P l (p ∷ ps) h =
    All-append P (behind l p) (all_rows (map (behind l) ps))
    (all-right P (front_of l p) (behind l p)
    (subst (All P) (front-behind l p) (all-left P p (all_rows ps) h)))
    (behind-all P l ps (all-right P p (all_rows ps) h))

pub all_rows-last : (ps : List (List Row)) (p : List Row) → all_rows (ps ++ p ∷ []) ≡ all_rows ps ++ p
all_rows-last [] p = append-nil p
all_rows-last (x ∷ xs) p =
    ap (λ (rows : List Row). x ++ rows) (all_rows-last xs p) ∙ sym (append_assoc x (all_rows xs) p)

pub fronts-last : (l : Labels) (ps : List (List Row)) (p : List Row)
    → fronts l (ps ++ p ∷ []) ≡ fronts l ps ++ front_of l p
fronts-last l [] p = append-nil (front_of l p)
fronts-last l (x ∷ xs) p =
    ap (λ (rows : List Row). front_of l x ++ rows) (fronts-last l xs p)
    ∙ sym (append_assoc (front_of l x) (fronts l xs) (front_of l p))

pub fronts_more : (l : Labels) (ps : List (List Row)) (n : ℕ) (p whole before after : List Row)
    → n < length ps → p ≡ get_or ps n p → before ≡ whole ++ fronts l (take n ps)
    → after ≡ before ++ front_of l p → after ≡ whole ++ fronts l (take (n + 1) ps)
fronts_more l ps n p whole before after lt is inv put =
    put
    ∙ ap (λ (xs : List Row). xs ++ front_of l p) inv
    ∙ append_assoc whole (fronts l (take n ps)) (front_of l p)
    ∙ ap (λ (xs : List Row). whole ++ xs) (sym (fronts-last l (take n ps) p)
    ∙ ap (fronts l) (sym ((take_at_read ps n p lt).1 ∙ ap (λ (x : List Row). take n ps ++ x ∷ []) (sym is))))

-- lists that are those behind, place by place
pub all_behind : (l : Labels) (new old : List (List Row)) → length new ≡ length old
    → ((k : ℕ) (d : List Row) → k < length old → get_or new k d ≡ behind l (get_or old k d))
    → new ≡ map (behind l) old
all_behind l [] [] long each = refl
all_behind l [] (o ∷ os) long each = absurd (omega (arith, long))
all_behind l (n ∷ ns) [] long each = absurd (omega (arith, long))
all_behind l (n ∷ ns) (o ∷ os) long each =
    let rest = all_behind l ns os (omega (arith, long)) (λ k d lt. each (suc k) d (omega (arith, lt))) in
    let first : n ≡ behind l o = each 0 n (omega arith) in
    (λ i. first i ∷ rest i)
