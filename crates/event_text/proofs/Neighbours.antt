-- Tests of elements that stand next to each other, as a loop makes them.
use Rattle.std.proofs.Common.{◌≡◌, ℕ, suc, ◌+◌, ◌-◌, ◌<◌, ◌≤◌, inl, inr, Bool, true, false, List}
use Rattle.std.proofs.Common.{[], ◌∷◌, length, drop, get_or, sym, ap, ◌∙◌, arith}
use Rattle.std.specs.Prelude.{◌&&◌}
use Rattle.std.proofs.Math.Seq.{drop-cons}
use Rattle.std.proofs.lemmas.Bool.{cases_lt}
use Rattle.std.proofs.lemmas.List.{drop_all}
use Rattle.event_text.specs.Neighbours.{neighbours}

one_at : {X : Type 0} (xs : List X) (i : ℕ) (d : X) → i < length xs
    → drop i xs ≡ get_or xs i d ∷ drop (i + 1) xs
one_at xs i d lt =
    let next : suc i ≡ i + 1 = omega arith in
    drop-cons xs i d lt ∙ ap (λ (n : ℕ). get_or xs i d ∷ drop n xs) next

-- the element that stands at a place, and those after it
pub from_read : {X : Type 0} (xs : List X) (i : ℕ) (x : X) → i < length xs → x ≡ get_or xs i x
    → drop i xs ≡ x ∷ drop (i + 1) xs
from_read {X} xs i x lt read = one_at xs i x lt ∙ ap (λ (y : X). y ∷ drop (i + 1) xs) (sym read)

both_at : {X : Type 0} (test : X → X → Bool) (xs : List X) (i : ℕ) (x y : X) → 0 < i → i < length xs
    → x ≡ get_or xs (i - 1) x → y ≡ get_or xs i y
    → neighbours test (drop (i - 1) xs) ≡ (test x y && neighbours test (drop i xs))
both_at {X} test xs i x y some lt first second =
    let back : i - 1 + 1 ≡ i = omega arith in
    let here : drop i xs ≡ y ∷ drop (i + 1) xs = from_read xs i y lt second in
    ap (neighbours test) (from_read xs (i - 1) x (omega arith) first
    ∙ ap (λ (n : ℕ). x ∷ drop n xs) back
    ∙ ap (λ (ys : List X). x ∷ ys) here)
    ∙ ap (λ (ys : List X). test x y && neighbours test ys) (sym here)

pub goes_on : {X : Type 0} (test : X → X → Bool) (xs : List X) (i : ℕ) (x y : X) (whole : Bool)
    → 0 < i → i < length xs → x ≡ get_or xs (i - 1) x → y ≡ get_or xs i y
    → test x y ≡ true → neighbours test (drop (i - 1) xs) ≡ whole
    → neighbours test (drop (i + 1 - 1) xs) ≡ whole
goes_on test xs i x y whole some lt first second holds so_far =
    let same : i + 1 - 1 ≡ i = omega arith in
    ap (λ (n : ℕ). neighbours test (drop n xs)) same
    ∙ sym (both_at test xs i x y some lt first second
    ∙ ap (λ (b : Bool). b && neighbours test (drop i xs)) holds)
    ∙ so_far

pub stops : {X : Type 0} (test : X → X → Bool) (xs : List X) (i : ℕ) (x y : X) (whole : Bool)
    → 0 < i → i < length xs → x ≡ get_or xs (i - 1) x → y ≡ get_or xs i y
    → test x y ≡ false → neighbours test (drop (i - 1) xs) ≡ whole → false ≡ whole
stops test xs i x y whole some lt first second fails so_far =
    sym (both_at test xs i x y some lt first second
    ∙ ap (λ (b : Bool). b && neighbours test (drop i xs)) fails)
    ∙ so_far

-- the last element alone
pub ends : {X : Type 0} (test : X → X → Bool) (xs : List X) (i : ℕ) (whole : Bool) → length xs ≤ i
    → neighbours test (drop (i - 1) xs) ≡ whole → true ≡ whole
ends test xs i whole le so_far = sym (last test xs i le) ∙ so_far
  where
    last : {X : Type 0} (test : X → X → Bool) (xs : List X) (i : ℕ) → length xs ≤ i
        → neighbours test (drop (i - 1) xs) ≡ true
    last test [] i le = ap (neighbours test) (drop_all (i - 1) [] (omega arith))
    last {X} test (e ∷ es) i le = elim (cases_lt (i - 1) (length (e ∷ es))) [
      | inl lt ↦
          ap (neighbours test) (one_at (e ∷ es) (i - 1) e lt
          ∙ ap (λ (ys : List X). get_or (e ∷ es) (i - 1) e ∷ ys)
          (drop_all (i - 1 + 1) (e ∷ es) (omega arith)))
      | inr past ↦ ap (neighbours test) (drop_all (i - 1) (e ∷ es) past)
    ]
