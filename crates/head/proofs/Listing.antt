-- The lists of pairs, where a search among them ended.
use Rattle.std.proofs.Common.{◌≡◌, ◌≢◌, ℕ, Bool, true, false, List, [], ◌∷◌, ◌++◌, get_or, set, Option, unwrap_or, Result, Ok, Err, OnOk, refl, sym, ap, ◌∙◌}
use Rattle.std.specs.Prelude.{T}
use Rattle.std.specs.List.{insert}
use Rattle.std.specs.declared.cmp.Ordering.TheVariants.{Less, Equal, Greater}
use Rattle.std.specs.FinMap.Entries.{put, is_sorted}
use Rattle.labels.specs.Labels.{pair_cmp}
use Rattle.labels.proofs.Texts.{pair_total, pair_exact}
use Rattle.pages.specs.Pages.{IsChanged}
use Rattle.pages.specs.Sorted.{IsSplit, IsHit, IsGap}
use Rattle.head.specs.Index.{Pair, PairLists, listed, listed_more}
use Rattle.head.specs.Places.{IsNameBoundary, side_of}
use Rattle.head.proofs.Keyed.{keys_ascend, keys_split, find_hit, find_gap, put_hit, put_gap}

-- one reference more in the list of a pair that is listed
more_listed : (q : Pair) (r : ℕ) (xs zs : PairLists) (i : ℕ) → T (is_sorted pair_cmp xs) → IsHit (λ (e : Pair × List ℕ). pair_cmp e.0 q) xs i → IsChanged (λ (l : Pair × List ℕ). (l.0, l.1 ++ r ∷ [])) xs i zs → zs ≡ listed_more q r xs
more_listed q r xs zs i h hit changed =
    let d : Pair × List ℕ = (q, []) in
    let of : listed q xs ≡ (get_or xs i d).1 = ap (λ (o : Option (List ℕ)). unwrap_or o []) (find_hit pair_total q xs i d h hit) in
    changed d
    ∙ ap (λ (p : Pair). set xs i (p, (get_or xs i d).1 ++ r ∷ [])) (pair_exact (get_or xs i d).0 q (hit.same d))
    ∙ ap (λ (l : List ℕ). set xs i (q, l ++ r ∷ [])) (sym of)
    ∙ put_hit pair_total pair_exact q (listed q xs ++ r ∷ []) xs i h hit

-- the list of a pair that was not listed
newly_listed : (q : Pair) (r : ℕ) (xs : PairLists) (i : ℕ) → IsGap (λ (e : Pair × List ℕ). pair_cmp e.0 q) xs i → insert xs i (q, r ∷ []) ≡ listed_more q r xs
newly_listed q r xs i gap =
    put_gap pair_total q (r ∷ []) xs i gap
    ∙ ap (λ (o : Option (List ℕ)). put pair_cmp q (unwrap_or o [] ++ r ∷ []) xs) (sym (find_gap pair_total q xs i gap))

-- what a push or an insertion gives, `ys` being the lists as their readers see them
pub pushed_as : {A B : Type 0} (q p : Pair) (r : ℕ) (xs ys zs : PairLists) (i : ℕ) (res : Result A B) → T (is_sorted pair_cmp xs) → xs ≡ ys → q ≡ p
    → (IsSplit (λ (e : Pair × List ℕ). pair_cmp e.0 q) xs → IsHit (λ (e : Pair × List ℕ). pair_cmp e.0 q) xs i) → OnOk res (IsChanged (λ (l : Pair × List ℕ). (l.0, l.1 ++ r ∷ [])) xs i zs) → OnOk res (zs ≡ listed_more p r ys)
pushed_as q p r xs ys zs i (Ok a) h y e hit changed =
    more_listed q r xs zs i h (hit (keys_split pair_total xs q [] h)) changed ∙ ap (λ (n : Pair). listed_more n r xs) e ∙ ap (listed_more p r) y
pushed_as q p r xs ys zs i (Err b) h y e hit changed = tt

pub inserted_as : {A B : Type 0} (q p : Pair) (r : ℕ) (xs ys zs : PairLists) (i : ℕ) (l : Pair × List ℕ) (res : Result A B) → T (is_sorted pair_cmp xs) → xs ≡ ys → q ≡ p
    → (IsSplit (λ (e : Pair × List ℕ). pair_cmp e.0 q) xs → IsGap (λ (e : Pair × List ℕ). pair_cmp e.0 q) xs i) → l ≡ (p, r ∷ []) → OnOk res (zs ≡ insert xs i l) → OnOk res (zs ≡ listed_more p r ys)
inserted_as q p r xs ys zs i l (Ok a) h y e gap is written =
    written ∙ ap (insert xs i) (is ∙ ap (λ (n : Pair). (n, r ∷ [])) (sym e))
    ∙ newly_listed q r xs i (gap (keys_split pair_total xs q [] h)) ∙ ap (λ (n : Pair). listed_more n r xs) e ∙ ap (listed_more p r) y
inserted_as q p r xs ys zs i l (Err b) h y e gap is written = tt

less_side : (b : Bool) → side_of b ≡ Less → b ≡ true
less_side true e = refl
less_side false e = (cc)

greater_side : (b : Bool) → side_of b ≡ Greater → b ≡ false
greater_side true e = (cc)
greater_side false e = refl

not_greater_side : (b : Bool) → side_of b ≢ Greater → b ≡ true
not_greater_side true n = refl
not_greater_side false n = absurd (n refl)

not_less_side : (b : Bool) → side_of b ≢ Less → b ≡ false
not_less_side true n = absurd (n refl)
not_less_side false n = refl

no_side : (b : Bool) → side_of b ≡ Equal → ⊥
no_side true e = (cc)
no_side false e = (cc)

-- a test that holds of the pairs before each of which it holds splits sorted pairs
pub side_split : (p : Pair → Bool) (xs : PairLists) → T (is_sorted pair_cmp xs) → ((a b : Pair) → pair_cmp a b ≡ Less → p b ≡ true → p a ≡ true) → IsSplit (λ (e : Pair × List ℕ). side_of (p e.0)) xs
side_split p xs h down = record {
  below = λ i j d l b n. ap side_of (down (get_or xs i d).0 (get_or xs j d).0 (keys_ascend pair_total xs h i j d l b) (not_greater_side (p (get_or xs j d).0) n));
  above = λ i j d l b n. ap side_of (failed (get_or xs i d).0 (get_or xs j d).0 (p (get_or xs j d).0) refl (keys_ascend pair_total xs h i j d l b) (not_less_side (p (get_or xs i d).0) n));
}
  where
    both : (t : Bool) → t ≡ true → t ≡ false → ⊥
    both true x y = (cc)
    both false x y = (cc)

    failed : (a b : Pair) (t : Bool) → p b ≡ t → pair_cmp a b ≡ Less → p a ≡ false → p b ≡ false
    failed a b true q l f = absurd (both (p a) (down a b l q) f)
    failed a b false q l f = q

-- a search for a boundary of names ends at it
pub side_boundary : (test : List ℕ → Bool) (xs : PairLists) (i : ℕ) → IsGap (λ (e : Pair × List ℕ). side_of (test e.0.0)) xs i → IsNameBoundary test xs i
side_boundary test xs i gap = record {
  in_range = gap.inside;
  passes_before = λ k d l. less_side (test (get_or xs k d).0.0) (gap.below k d l);
  fails_after = λ k d a l. greater_side (test (get_or xs k d).0.0) (gap.above k d a l);
}

-- and hits nothing
pub side_no_hit : {Y : Type 0} (test : List ℕ → Bool) (xs : PairLists) (i : ℕ) → IsHit (λ (e : Pair × List ℕ). side_of (test e.0.0)) xs i → Y
side_no_hit test xs i hit = absurd (no_side (test (get_or xs i (([], []), [])).0.0) (hit.same (([], []), [])))
