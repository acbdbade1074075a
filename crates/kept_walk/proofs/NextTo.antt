-- Tests of items that stand next to each other, as a loop makes them.
use Rattle.std.proofs.Common.{◌≡◌, ℕ, suc, ◌+◌, ◌-◌, ◌<◌, ◌≤◌, inl, inr, Bool, true, false, List}
use Rattle.std.proofs.Common.{[], ◌∷◌, length, drop, get_or, sym, ap, ◌∙◌, arith}
use Rattle.std.specs.Prelude.{◌&&◌}
use Rattle.std.proofs.Math.Seq.{drop-cons}
use Rattle.std.proofs.lemmas.Bool.{cases_lt}
use Rattle.std.proofs.lemmas.List.{drop_all}
use Rattle.kept_walk.specs.Fields.{each_next}

module _ {X : Type 0} (test : X → X → Bool) (xs : List X) where
  -- a loop that has looked at the items before a place
  abbrev pub IsLooking : ℕ → Type 0
  IsLooking i = each_next test (drop (i - 1) xs) ≡ each_next test xs

  one_at : (i : ℕ) (d : X) → i < length xs → drop i xs ≡ get_or xs i d ∷ drop (i + 1) xs
  one_at i d lt =
      let next : suc i ≡ i + 1 = omega arith in
      drop-cons xs i d lt ∙ ap (λ (n : ℕ). get_or xs i d ∷ drop n xs) next

  both_at : (i : ℕ) (d e : X) → 0 < i → i < length xs
      → each_next test (drop (i - 1) xs)
      ≡ (test (get_or xs (i - 1) d) (get_or xs i e) && each_next test (drop i xs))
  both_at i d e some lt =
      let back : i - 1 + 1 ≡ i = omega arith in
      let x = get_or xs (i - 1) d in
      let y = get_or xs i e in
      ap (each_next test) (one_at (i - 1) d (omega arith) ∙ ap (λ (n : ℕ). x ∷ drop n xs) back
      ∙ ap (λ (ys : List X). x ∷ ys) (one_at i e lt))
      ∙ ap (λ (ys : List X). test x y && each_next test ys) (sym (one_at i e lt))

  pub looks_on : (i : ℕ) (d e : X) → 0 < i → i < length xs
      → test (get_or xs (i - 1) d) (get_or xs i e) ≡ true → IsLooking i → IsLooking (i + 1)
  looks_on i d e some lt holds so_far =
      let same : i + 1 - 1 ≡ i = omega arith in
      ap (λ (n : ℕ). each_next test (drop n xs)) same
      ∙ sym (both_at i d e some lt ∙ ap (λ (b : Bool). b && each_next test (drop i xs)) holds)
      ∙ so_far

  pub stops : (i : ℕ) (d e : X) → 0 < i → i < length xs
      → test (get_or xs (i - 1) d) (get_or xs i e) ≡ false → IsLooking i
      → false ≡ each_next test xs
  stops i d e some lt fails so_far =
      sym (both_at i d e some lt ∙ ap (λ (b : Bool). b && each_next test (drop i xs)) fails)
      ∙ so_far

last : {X : Type 0} (test : X → X → Bool) (xs : List X) (i : ℕ) → length xs ≤ i
    → each_next test (drop (i - 1) xs) ≡ true
last test [] i le = ap (each_next test) (drop_all (i - 1) [] (omega arith))
last {X} test (e ∷ es) i le = elim (cases_lt (i - 1) (length (e ∷ es))) [
  | inl lt ↦
      ap (each_next test) (one_at test (e ∷ es) (i - 1) e lt
      ∙ ap (λ (ys : List X). get_or (e ∷ es) (i - 1) e ∷ ys)
      (drop_all (i - 1 + 1) (e ∷ es) (omega arith)))
  | inr past ↦ ap (each_next test) (drop_all (i - 1) (e ∷ es) past)
]

pub ends : {X : Type 0} (test : X → X → Bool) (xs : List X) (i : ℕ) → length xs ≤ i
    → IsLooking test xs i → true ≡ each_next test xs
ends test xs i le so_far = sym (last test xs i le) ∙ so_far
