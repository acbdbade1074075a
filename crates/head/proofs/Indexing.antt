-- The index of a head that a batch has extended.
use Rattle.std.specs.Prelude.{◌≡◌, ◌<◌, ◌≤◌, ◌+◌, ℕ, zero, suc, ℤ, Bool, true, false, cond, List, [], ◌∷◌, ◌++◌, Option, None, Some, Result, Ok, Err, length, take, int_lt, nat_le, refl, slice_index_or}
use Rattle.std.specs.Ordering.{int_eq}
use Rattle.std.proofs.Common.{sym, ◌∙◌, ap, subst, arith, append_assoc, append-nil}
use Rattle.std.proofs.lemmas.List.{take_more, length-map}
use Rattle.labels.specs.Labels.{Labels, same_labels}
use Rattle.head.specs.Refusals.{Refusal, out_of_bounds, out_of_order, duplicate, limit}
use Rattle.head.specs.Limits.{max_series, max_samples}
use Rattle.head.specs.Heads.{HeadSeries, numbered, head_part, series_at}
use Rattle.head.specs.Taking.{extended, grown, head_added, head_added_after, head_added_each}
use Rattle.head.specs.Orders.{sets_of, Extends}
use Rattle.head.specs.Index.{PairLists, IsIndexOf}
use Rattle.head.specs.IndexLaws.{labelled, IsIndexOf-labelled}

pub same_extends : (ls : List Labels) → Extends ls ls
same_extends ls = ([], append-nil ls)

pub extends_through : (a b c : List Labels) → Extends a b → Extends b c → Extends a c
extends_through a b c p q = (p.0 ++ q.0, sym (append_assoc a p.0 q.0) ∙ ap (λ ls. ls ++ q.0) p.1 ∙ q.1)

extends_tail : (l : Labels) (a b : List Labels) → Extends a b → Extends (l ∷ a) (l ∷ b)
extends_tail l a b p = (p.0, ap (λ ls. l ∷ ls) p.1)

extended_extends : (l : Labels) (s : ℤ × ℤ) (head : List HeadSeries) → Extends (sets_of head) (sets_of (extended l s head))
extended_extends l s [] = (l ∷ [], refl)
extended_extends l s (h ∷ hs) = go (same_labels l h.labels) (extended_extends l s hs)
  where
    go : (b : Bool) → Extends (sets_of hs) (sets_of (extended l s hs)) → Extends (sets_of (h ∷ hs)) (sets_of (cond b (grown s h ∷ hs) (h ∷ extended l s hs)))
    go true p = same_extends (sets_of (h ∷ hs))
    go false p = extends_tail h.labels (sets_of hs) (sets_of (extended l s hs)) p

-- where a step accepts, its outcome has the label sets and perhaps more
abbrev ExtendsIn : List Labels → Result (List HeadSeries) Refusal → Type 0
ExtendsIn sets (Ok new) = Extends sets (sets_of new)
ExtendsIn sets (Err e) = Unit {0}

refused_or : (sets : List Labels) (b : Bool) (e : Refusal) (r : Result (List HeadSeries) Refusal) → ExtendsIn sets r → ExtendsIn sets (cond b (Err e) r)
refused_or sets true e r h = tt
refused_or sets false e r h = h

repeat_or : (sets : List Labels) (a b : Bool) (x y r : Result (List HeadSeries) Refusal) → ExtendsIn sets x → ExtendsIn sets y → ExtendsIn sets r → ExtendsIn sets (cond a (cond b x y) r)
repeat_or sets true true x y r p q h = p
repeat_or sets true false x y r p q h = q
repeat_or sets false b x y r p q h = h

after_extends : (head : List HeadSeries) (at : ℕ) (l : Labels) (s : ℤ × ℤ) (o : Option HeadSeries) → ExtendsIn (sets_of head) (head_added_after head at l s o)
after_extends head at l s None = refused_or (sets_of head) (nat_le max_series (length head)) limit (Ok (extended l s head)) (extended_extends l s head)
after_extends head at l s (Some h) =
    refused_or (sets_of head) (int_lt s.0 h.newest.0) (out_of_order at) _
    (repeat_or (sets_of head) (int_eq s.0 h.newest.0) (int_eq s.1 h.newest.1) (Ok head) (Err (duplicate at)) _ (same_extends (sets_of head)) tt
    (refused_or (sets_of head) (nat_le max_samples (length h.samples)) limit (Ok (extended l s head)) (extended_extends l s head)))

step_extends : (floor : ℤ) (head : List HeadSeries) (at : ℕ) (x : Labels × (ℤ × ℤ)) → ExtendsIn (sets_of head) (head_added floor head at x)
unfolding head_added
step_extends floor head at x = refused_or (sets_of head) (int_lt x.1.0 floor) (out_of_bounds at) _ (after_extends head at x.0 x.1 (series_at x.0 head))

each_extends : (floor : ℤ) (sets : List Labels) (xs : List (Labels × (ℤ × ℤ))) (r : Result (List HeadSeries) Refusal) (at : ℕ) → ExtendsIn sets r → ExtendsIn sets (head_added_each floor r at xs)
each_extends floor sets [] r at h = h
each_extends floor sets (x ∷ xs) (Err e) at h = tt
each_extends floor sets (x ∷ xs) (Ok head) at h = each_extends floor sets xs (head_added floor head at x) (at + 1) (further (head_added floor head at x) (step_extends floor head at x))
  where
    further : (r : Result (List HeadSeries) Refusal) → ExtendsIn (sets_of head) r → ExtendsIn sets r
    further (Ok new) g = extends_through sets (sets_of head) (sets_of new) h g
    further (Err e) g = tt

-- a batch leaves the label sets where they are
pub batch_extends : (floor : ℤ) (head : List HeadSeries) (xs : List (Labels × (ℤ × ℤ))) (new : List HeadSeries) → head_added_each floor (Ok head) 0 xs ≡ Ok new → Extends (sets_of head) (sets_of new)
batch_extends floor head xs new is = subst (ExtendsIn (sets_of head)) is (each_extends floor (sets_of head) xs (Ok head) 0 (same_extends (sets_of head)))

-- heads of the same label sets are labelled alike
labelled_alike : (n : ℕ) (a b : List HeadSeries) → sets_of a ≡ sets_of b → labelled (numbered n a) ≡ labelled (numbered n b)
labelled_alike n [] [] e = refl
labelled_alike n [] (y ∷ ys) e = absurd cc
labelled_alike n (x ∷ xs) [] e = absurd cc
labelled_alike n (x ∷ xs) (y ∷ ys) e =
    let first : x.labels ≡ y.labels = cc in
    let rest : sets_of xs ≡ sets_of ys = cc in
    λ i. (n, first i) ∷ labelled_alike (n + 1) xs ys rest i

taken_sets : (k : ℕ) (hs : List HeadSeries) → sets_of (take k hs) ≡ take k (sets_of hs)
taken_sets zero hs = refl
taken_sets (suc k) [] = refl
taken_sets (suc k) (h ∷ hs) = ap (λ ls. h.labels ∷ ls) (taken_sets k hs)

taken_front : (a more : List Labels) → take (length a) (a ++ more) ≡ a
taken_front [] more = refl
taken_front (l ∷ ls) more = ap (λ xs. l ∷ xs) (taken_front ls more)

-- the index of a head serves for the first series of one that extends it
pub index_of_front : (lists : PairLists) (old new : List HeadSeries) (k : ℕ) → k ≡ length old → Extends (sets_of old) (sets_of new) → IsIndexOf lists (head_part old) → IsIndexOf lists (head_part (take k new))
index_of_front lists old new k size ext h =
    let same : sets_of (take k new) ≡ sets_of old =
    taken_sets k new
    ∙ (λ i. take ((size ∙ sym (length-map old (λ (s : HeadSeries). s.labels))) i) (sym ext.1 i))
    ∙ taken_front (sets_of old) ext.0 in
    IsIndexOf-labelled lists (head_part old) (head_part (take k new)) (labelled_alike 1 old (take k new) (sym same)) h

numbered-last : (n : ℕ) (hs : List HeadSeries) (h : HeadSeries) → numbered n (hs ++ h ∷ []) ≡ numbered n hs ++ (n + length hs, (h.labels, h.samples)) ∷ []
numbered-last n [] h = let e : n ≡ n + zero = omega arith in ap (λ m. (m, (h.labels, h.samples)) ∷ []) e
numbered-last n (x ∷ xs) h =
    let e : (n + 1) + length xs ≡ n + suc (length xs) = omega arith in
    ap (λ rows. (n, (x.labels, x.samples)) ∷ rows) (numbered-last (n + 1) xs h ∙ ap (λ m. numbered (n + 1) xs ++ (m, (h.labels, h.samples)) ∷ []) e)

taken_length : (k : ℕ) (hs : List HeadSeries) → k ≤ length hs → length (take k hs) ≡ k
taken_length zero hs l = refl
taken_length (suc k) [] l = absurd (omega (arith, l))
taken_length (suc k) (h ∷ hs) l = ap suc (taken_length k hs (omega (arith, l)))

-- one series more
pub front_more : (k : ℕ) (hs : List HeadSeries) (d : HeadSeries) → k < length hs → head_part (take (k + 1) hs) ≡ head_part (take k hs) ++ (k + 1, ((slice_index_or hs k d).labels, (slice_index_or hs k d).samples)) ∷ []
front_more k hs d l =
    let e : 1 + length (take k hs) ≡ k + 1 = ap (λ m. 1 + m) (taken_length k hs (omega (arith, l))) ∙ swap k in
    ap head_part (take_more hs k d l)
    ∙ numbered-last 1 (take k hs) (slice_index_or hs k d)
    ∙ ap (λ m. head_part (take k hs) ++ (m, ((slice_index_or hs k d).labels, (slice_index_or hs k d).samples)) ∷ []) e
  where
    swap : (m : ℕ) → 1 + m ≡ m + 1
    swap m = omega arith

pub taken_all : (k : ℕ) (hs : List HeadSeries) → length hs ≤ k → take k hs ≡ hs
taken_all zero [] l = refl
taken_all (suc k) [] l = refl
taken_all zero (h ∷ hs) l = absurd (omega (arith, l))
taken_all (suc k) (h ∷ hs) l = ap (λ xs. h ∷ xs) (taken_all k hs (omega (arith, l)))
