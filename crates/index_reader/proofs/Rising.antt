-- Neighbours, one after another.
use Rattle.std.proofs.Common.{◌≡◌, ℕ, zero, suc, ◌+◌, ◌-◌, ◌<◌, ◌≤◌, Bool, true, false, ◌&&◌, List}
use Rattle.std.proofs.Common.{[], ◌∷◌, length, drop, get_or, Some, refl, sym, ap, ◌∙◌, arith}
use Rattle.std.specs.List.{IsAllAdjacentAnswer}
use Rattle.std.specs.Prelude.{map, slice_get}
use Rattle.std.proofs.lemmas.List.{length-drop}
use Rattle.index_reader.specs.Layout.{rises}

step_at : {X : Type 0} (less : X → X → Bool) (xs : List X) (i : ℕ) (a b : X)
    → slice_get xs i ≡ Some a → slice_get xs (suc i) ≡ Some b
    → rises less (drop i xs) ≡ (less a b && rises less (drop (suc i) xs))
unfolding rises
step_at less [] i a b e f = absurd cc
step_at less (x ∷ []) zero a b e f = absurd cc
step_at less (x ∷ y ∷ xs) zero a b e f =
    let p : x ≡ a = cc in
    let q : y ≡ b = cc in
    rw (p, q) refl
step_at less (x ∷ xs) (suc i) a b e f = step_at less xs i a b e f

pub next : {X : Type 0} (less : X → X → Bool) (xs : List X) (at : ℕ) (a b : X) (r whole : Bool)
    → 0 < at → slice_get xs (at - 1) ≡ Some a → slice_get xs at ≡ Some b → r ≡ less a b
    → rises less (drop (at - 1) xs) ≡ whole → whole ≡ (r && rises less (drop at xs))
next less xs zero a b r whole pos e f t h = absurd (omega arith)
next less xs (suc i) a b r whole pos e f t h =
    let back : suc i - 1 ≡ i = omega arith in
    rw t
    (sym h ∙ ap (λ (k : ℕ). rises less (drop k xs)) back ∙ step_at less xs i a b (rw back at e) f)

few : {X : Type 0} (less : X → X → Bool) (xs : List X) → length xs ≤ 1 → rises less xs ≡ true
unfolding rises
few less [] le = refl
few less (x ∷ []) le = refl
few less (x ∷ y ∷ xs) le = absurd (omega arith)

pub at_end : {X : Type 0} (less : X → X → Bool) (xs : List X) (at : ℕ) (whole : Bool)
    → length xs ≤ at → rises less (drop (at - 1) xs) ≡ whole → true ≡ whole
at_end less xs at whole le h =
    sym (few less (drop (at - 1) xs) (omega (arith, length-drop (at - 1) xs))) ∙ h

-- ---- by the answers for each two neighbours

and_false : (b : Bool) → false ≡ (b && false)
and_false true = refl
and_false false = refl

all_below : {X : Type 0} (less : X → X → Bool) (xs : List X)
    → ((k : ℕ) (d : X) → suc k < length xs → true ≡ less (get_or xs k d) (get_or xs (suc k) d))
    → true ≡ rises less xs
unfolding rises
all_below less [] h = refl
all_below less (x ∷ []) h = refl
all_below less (x ∷ y ∷ xs) h =
    let first : true ≡ less x y = h 0 x (omega arith) in
    let others : true ≡ rises less (y ∷ xs) =
    all_below less (y ∷ xs) (λ k d lt. h (suc k) d (omega arith)) in
    rw (sym first, sym others) refl

some_above : {X : Type 0} (less : X → X → Bool) (xs : List X) (k : ℕ) → suc k < length xs
    → ((d : X) → false ≡ less (get_or xs k d) (get_or xs (suc k) d)) → false ≡ rises less xs
unfolding rises
some_above less [] k lt h = absurd (omega arith)
some_above less (x ∷ []) k lt h = absurd (omega arith)
some_above less (x ∷ y ∷ xs) zero lt h = let first : false ≡ less x y = h x in rw (sym first) refl
some_above less (x ∷ y ∷ xs) (suc k) lt h =
    let others : false ≡ rises less (y ∷ xs) = some_above less (y ∷ xs) k (omega arith) h in
    rw (sym others) (and_false (less x y))

pub by_neighbours : {X : Type 0} (less : X → X → Bool) (xs : List X) (r : Bool)
    → IsAllAdjacentAnswer (λ x y b. b ≡ less x y) xs r → r ≡ rises less xs
by_neighbours less xs true each =
    all_below less xs (λ k d lt.
    let s : k + 1 ≡ suc k = omega arith in rw s at (each k d (omega (arith, lt))))
by_neighbours less xs false other =
    let s : other.0 + 1 ≡ suc other.0 = omega arith in
    some_above less xs other.0 (omega (arith, other.1)) (λ d. rw s at (other.2 d))

pub of_mapped : {X Y : Type 0} (f : X → Y) (less : Y → Y → Bool) (xs : List X)
    → rises (λ a b. less (f a) (f b)) xs ≡ rises less (map f xs)
unfolding rises
of_mapped f less [] = refl
of_mapped f less (x ∷ []) = refl
of_mapped f less (x ∷ y ∷ xs) =
    ap (λ (b : Bool). less (f x) (f y) && b) (of_mapped f less (y ∷ xs))
