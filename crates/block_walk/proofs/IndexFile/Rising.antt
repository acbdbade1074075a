-- Neighbours, one after another.
use Rattle.std.proofs.Common.{◌≡◌, ℕ, zero, suc, ◌-◌, ◌<◌, ◌≤◌, Bool, true, ◌&&◌, List, [], ◌∷◌, length, drop, Some, refl, sym, ap, ◌∙◌, arith}
use Rattle.std.specs.Prelude.{slice_get}
use Rattle.std.proofs.lemmas.List.{length-drop}
use Rattle.block_walk.specs.IndexFile.Each.{rises}

step_at : {X : Type 0} (less : X → X → Bool) (xs : List X) (i : ℕ) (a b : X)
    → slice_get xs i ≡ Some a → slice_get xs (suc i) ≡ Some b
    → rises less (drop i xs) ≡ (less a b && rises less (drop (suc i) xs))
unfolding rises
step_at less [] i a b e f = absurd cc
step_at less (x ∷ []) zero a b e f = absurd cc
step_at less (x ∷ y ∷ xs) zero a b e f =
    let p : x ≡ a = cc in
    let q : y ≡ b = cc in
    rw (p, q) refl
step_at less (x ∷ xs) (suc i) a b e f = step_at less xs i a b e f

pub next : {X : Type 0} (less : X → X → Bool) (xs : List X) (at : ℕ) (a b : X) (r whole : Bool)
    → 0 < at → slice_get xs (at - 1) ≡ Some a → slice_get xs at ≡ Some b → r ≡ less a b
    → rises less (drop (at - 1) xs) ≡ whole → whole ≡ (r && rises less (drop at xs))
next less xs zero a b r whole pos e f t h = absurd (omega arith)
next less xs (suc i) a b r whole pos e f t h =
    let back : suc i - 1 ≡ i = omega arith in
    rw t
    (sym h ∙ ap (λ (k : ℕ). rises less (drop k xs)) back ∙ step_at less xs i a b (rw back at e) f)

few : {X : Type 0} (less : X → X → Bool) (xs : List X) → length xs ≤ 1 → rises less xs ≡ true
unfolding rises
few less [] le = refl
few less (x ∷ []) le = refl
few less (x ∷ y ∷ xs) le = absurd (omega arith)

pub at_end : {X : Type 0} (less : X → X → Bool) (xs : List X) (at : ℕ) (whole : Bool)
    → length xs ≤ at → rises less (drop (at - 1) xs) ≡ whole → true ≡ whole
at_end less xs at whole le h =
    sym (few less (drop (at - 1) xs) (omega (arith, length-drop (at - 1) xs))) ∙ h
