-- What is read of a packed chunk by place, and by halving.
use Rattle.std.proofs.Common.{◌≡◌, ℕ, zero, suc, ◌+◌, ◌<◌, ◌≤◌, ℤ, Bool, true, false, cond, List, [], ◌∷◌, ◌++◌, length, get_or, take, refl, sym, ap, ◌∙◌, append_assoc, append-nil, arith}
use Rattle.std.specs.Prelude.{T, int_lt, pos, slice_get, Some, ◌<ℤ◌, ◌≤ℤ◌}
use Rattle.std.specs.List.{filter}
use Rattle.std.specs.Ordering.{int_cmp}
use Rattle.std.specs.declared.cmp.Ordering.TheVariants.{Less}
use Rattle.std.specs.FinMap.Entries.{is_sorted}
use Rattle.std.proofs.lemmas.Int.{ints}
use Rattle.std.proofs.lemmas.List.{take_more}
use Rattle.std.proofs.lemmas.List.Elements.{filter-append}
use Rattle.std.proofs.lemmas.Option.{get_or_from_slice_get, slice_get_within}
use Rattle.labels.specs.Contents.{in_range}
use Rattle.labels.specs.Parts.{within}
use Rattle.labels.proofs.Times.{second_T, first_T, lt_of}
use Rattle.packed_chunks.specs.Packed.{time_at, Ascends}
use Rattle.head.proofs.Sampling.{below_at}

abbrev nowhere : ℤ × ℤ
nowhere = (pos 0, pos 0)

reflexive : (t : ℤ) → t ≤ℤ t
reflexive t = grind (arith, ints)

not_above : (t u : ℤ) → int_lt t u ≡ true → t ≤ℤ u
not_above t u e = grind (arith, ints)

is_before : (t u : ℤ) → t <ℤ u → int_lt t u ≡ true
is_before t u h = grind (arith, ints)

is_from : (t u : ℤ) → u ≤ℤ t → int_lt t u ≡ false
is_from t u h = grind (arith, ints)

-- times that strictly rise ascend
pub ascends : (xs : List (ℤ × ℤ)) → T (is_sorted int_cmp xs) → Ascends xs
ascends [] h i j le l = absurd (omega (arith, l))
ascends (x ∷ xs) h zero zero le l = reflexive x.0
ascends (x ∷ xs) h zero (suc j) le l =
    not_above x.0 (get_or xs j nowhere).0 (lt_of x.0 (get_or xs j nowhere).0 (below_at x.0 xs (first_T _ _ h) j nowhere (omega (arith, l))))
ascends (x ∷ xs) h (suc i) zero le l = absurd (omega (arith, le))
ascends (x ∷ xs) h (suc i) (suc j) le l = ascends xs (second_T _ _ h) i j (omega (arith, le)) (omega (arith, l))

same_at : (xs : List (ℤ × ℤ)) (k : ℕ) (d e : ℤ × ℤ) → k < length xs → get_or xs k d ≡ get_or xs k e
same_at [] k d e l = absurd (omega (arith, l))
same_at (x ∷ xs) zero d e l = refl
same_at (x ∷ xs) (suc k) d e l = same_at xs k d e (omega (arith, l))

-- the samples before a place lie before a time
pub before_each : (xs : List (ℤ × ℤ)) (a b : ℤ) (n : ℕ) → b ≡ a → n ≤ length xs → ((k : ℕ) → k < n → time_at xs k <ℤ b)
    → (k : ℕ) (e : ℤ × ℤ) → k < n → int_lt (get_or xs k e).0 a ≡ true
before_each xs a b n same le h k e l =
    ap (λ (s : ℤ × ℤ). int_lt s.0 a) (same_at xs k e nowhere (omega arith)) ∙ ap (int_lt (time_at xs k)) (sym same) ∙ is_before (time_at xs k) b (h k l)

-- the sample at the place does not
pub from_here : (xs : List (ℤ × ℤ)) (a b : ℤ) (n : ℕ) → b ≡ a → b ≤ℤ time_at xs n → int_lt (time_at xs n) a ≡ false
from_here xs a b n same h = ap (int_lt (time_at xs n)) (sym same) ∙ is_from (time_at xs n) b h

-- one sample more
pub within_more : (from to : ℤ) (xs before found after : List (ℤ × ℤ)) (i : ℕ) (s : ℤ × ℤ) (b : Bool) → slice_get xs i ≡ Some s → b ≡ in_range from to s.0
    → found ≡ before ++ within from to (take i xs) → after ≡ (cond b (found ++ s ∷ []) found) → after ≡ before ++ within from to (take (i + 1) xs)
within_more from to xs before found after i s b get e h g =
    let here : get_or xs i nowhere ≡ s = get_or_from_slice_get xs i s nowhere get in
    let inside : i < length xs = slice_get_within xs i s get in
    g ∙ ap (λ (c : Bool). cond c (found ++ s ∷ []) found) e
    ∙ joined (in_range from to s.0) refl
    ∙ sym (ap (λ (ys : List (ℤ × ℤ)). before ++ within from to ys) (take_more xs i nowhere inside ∙ ap (λ (x : ℤ × ℤ). take i xs ++ x ∷ []) here)
    ∙ ap (λ (ys : List (ℤ × ℤ)). before ++ ys) (filter-append (λ (x : ℤ × ℤ). in_range from to x.0) (take i xs) (s ∷ [])))
  where
    joined : (c : Bool) → in_range from to s.0 ≡ c → cond c (found ++ s ∷ []) found ≡ before ++ (within from to (take i xs) ++ within from to (s ∷ []))
    joined true is =
        ap (λ (ys : List (ℤ × ℤ)). ys ++ s ∷ []) h ∙ append_assoc before (within from to (take i xs)) (s ∷ [])
        ∙ sym (ap (λ (c : Bool). before ++ (within from to (take i xs) ++ cond c (s ∷ []) [])) is)
    joined false is =
        h ∙ sym (ap (λ (ys : List (ℤ × ℤ)). before ++ ys) (append-nil (within from to (take i xs))))
        ∙ sym (ap (λ (c : Bool). before ++ (within from to (take i xs) ++ cond c (s ∷ []) [])) is)
