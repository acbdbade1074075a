-- What a filter keeps of samples whose times ascend: nothing before a place, nothing from another on.
use Rattle.std.proofs.Common.{◌≡◌, ℕ, zero, suc, ◌+◌, ◌<◌, ◌≤◌, ℤ, Bool, true, false, cond, List, [], ◌∷◌, ◌++◌, length, get_or, drop, refl, sym, ap, ◌∙◌, append_assoc, arith}
use Rattle.std.specs.Prelude.{pos, ◌≤ℤ◌, ◌<ℤ◌, slice_get, Some}
use Rattle.std.specs.List.{filter}
use Rattle.std.proofs.lemmas.Int.{ints}
use Rattle.std.proofs.lemmas.List.{drop_more, drop_all, append-nil}
use Rattle.std.proofs.lemmas.Option.{slice_get_within, get_or_from_slice_get}
use lib.Signed.{lt_z}
use Rattle.packed_chunks.specs.Packed.{in_range, time_at, Ascends}

abbrev Test : Type 0
Test = (ℤ × ℤ) → Bool

abbrev at : List (ℤ × ℤ) → ℕ → ℤ × ℤ
at xs k = get_or xs k (pos 0, pos 0)

pub skipped : (p : Test) (xs : List (ℤ × ℤ)) (n : ℕ)
    → ((k : ℕ) → k < n → k < length xs → p (at xs k) ≡ false) → filter p (drop n xs) ≡ filter p xs
skipped p xs zero h = refl
skipped p [] (suc n) h = refl
skipped p (x ∷ xs) (suc n) h =
    skipped p xs n (λ k lt le. h (suc k) (omega arith) (omega arith))
    ∙ sym (ap (λ (b : Bool). cond b (x ∷ filter p xs) (filter p xs)) (h 0 (omega arith) (omega arith)))

pub none_left : (p : Test) (xs : List (ℤ × ℤ)) (n : ℕ)
    → ((k : ℕ) → n ≤ k → k < length xs → p (at xs k) ≡ false) → filter p (drop n xs) ≡ []
none_left p [] zero h = refl
none_left p [] (suc n) h = refl
none_left p (x ∷ xs) zero h =
    ap (λ (b : Bool). cond b (x ∷ filter p xs) (filter p xs)) (h 0 (omega arith) (omega arith))
    ∙ none_left p xs zero (λ k le lt. h (suc k) (omega arith) (omega arith))
none_left p (x ∷ xs) (suc n) h = none_left p xs n (λ k le lt. h (suc k) (omega arith) (omega arith))

pub kept_one : (p : Test) (xs : List (ℤ × ℤ)) (i : ℕ) (before after all : List (ℤ × ℤ)) → i < length xs
    → p (at xs i) ≡ true → after ≡ before ++ at xs i ∷ []
    → before ++ filter p (drop i xs) ≡ all → after ++ filter p (drop (i + 1) xs) ≡ all
kept_one p xs i before after all l e f h =
    ap (λ (ys : List (ℤ × ℤ)). ys ++ filter p (drop (i + 1) xs)) f
    ∙ append_assoc before (at xs i ∷ []) (filter p (drop (i + 1) xs))
    ∙ ap (λ (ys : List (ℤ × ℤ)). before ++ ys) (sym (ap (filter p) (drop_more xs i (pos 0, pos 0) l)
    ∙ ap (λ b. cond b (at xs i ∷ filter p (drop (i + 1) xs)) (filter p (drop (i + 1) xs))) e))
    ∙ h

pub before_range : (from to t : ℤ) → t <ℤ from → in_range from to t ≡ false
before_range from to t h = grind (arith, ints)

pub behind_range : (from to t : ℤ) → to <ℤ t → in_range from to t ≡ false
behind_range from to t h = grind (arith, ints)

pub within_range : (from to t : ℤ) → from ≤ℤ t → t ≤ℤ to → in_range from to t ≡ true
within_range from to t h k = grind (arith, ints)

not_above : (to t u : ℤ) → t ≡ u → lt_z to t ≡ false → u ≤ℤ to
not_above to t u e h = grind (arith, ints)

above : (to t u v : ℤ) → t ≡ u → lt_z to t ≡ true → u ≤ℤ v → to <ℤ v
above to t u v e h le = grind (arith, ints)

abbrev kept : ℤ → ℤ → List (ℤ × ℤ) → List (ℤ × ℤ)
kept from to xs = filter (λ (s : ℤ × ℤ). in_range from to s.0) xs

pub kept_begin : (xs found : List (ℤ × ℤ)) (from to : ℤ) (start : ℕ) → ((k : ℕ) → k < start → time_at xs k <ℤ from)
    → found ++ kept from to (drop start xs) ≡ found ++ kept from to xs
kept_begin xs found from to start h =
    ap (λ (ys : List (ℤ × ℤ)). found ++ ys) (skipped (λ s. in_range from to s.0) xs start
    (λ k lt le. before_range from to (time_at xs k) (h k lt)))

pub kept_step : (xs before after all : List (ℤ × ℤ)) (from to t : ℤ) (i : ℕ) (s : ℤ × ℤ) → slice_get xs i ≡ Some s
    → from ≤ℤ time_at xs i → lt_z to t ≡ false → t ≡ s.0 → after ≡ before ++ s ∷ []
    → before ++ kept from to (drop i xs) ≡ all → after ++ kept from to (drop (i + 1) xs) ≡ all
kept_step xs before after all from to t i s get low test same e h =
    let d : ℤ × ℤ = (pos 0, pos 0) in
    let here : at xs i ≡ s = get_or_from_slice_get xs i s d get in
    let time : t ≡ time_at xs i = same ∙ sym (ap (λ (x : ℤ × ℤ). x.0) here) in
    let in_it : in_range from to (time_at xs i) ≡ true = within_range from to (time_at xs i) low (not_above to t (time_at xs i) time test) in
    kept_one (λ x. in_range from to x.0) xs i before after all (slice_get_within xs i s get) in_it
    (e ∙ ap (λ (x : ℤ × ℤ). before ++ x ∷ []) (sym here)) h

pub kept_stop : (xs before all : List (ℤ × ℤ)) (from to t : ℤ) (i : ℕ) (s : ℤ × ℤ) → Ascends xs → slice_get xs i ≡ Some s
    → lt_z to t ≡ true → t ≡ s.0 → before ++ kept from to (drop i xs) ≡ all → before ≡ all
kept_stop xs before all from to t i s up get test same h =
    let here : at xs i ≡ s = get_or_from_slice_get xs i s (pos 0, pos 0) get in
    let time : t ≡ time_at xs i = same ∙ sym (ap (λ (x : ℤ × ℤ). x.0) here) in
    let none = none_left (λ x. in_range from to x.0) xs i (λ k le lt.
    behind_range from to (time_at xs k) (above to t (time_at xs i) (time_at xs k) time test (up i k le lt))) in
    sym (append-nil before) ∙ ap (λ (ys : List (ℤ × ℤ)). before ++ ys) (sym none) ∙ h

pub kept_end : (xs before all : List (ℤ × ℤ)) (from to : ℤ) (i : ℕ) → length xs ≤ i
    → before ++ kept from to (drop i xs) ≡ all → before ≡ all
kept_end xs before all from to i le h =
    sym (append-nil before) ∙ ap (λ (ys : List (ℤ × ℤ)). before ++ kept from to ys) (sym (drop_all i xs le)) ∙ h

pub same_kept : (xs found : List (ℤ × ℤ)) (from to a b : ℤ) → a ≡ from → b ≡ to
    → found ++ kept a b xs ≡ found ++ kept from to xs
same_kept xs found from to a b p q =
    ap (λ (x : ℤ). found ++ kept x b xs) p ∙ ap (λ (y : ℤ). found ++ kept from y xs) q
