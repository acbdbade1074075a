-- Reading items one after another, as a loop does.
use Rattle.std.proofs.Common.{◌≡◌, ℕ, suc, ◌-◌, ◌+◌, ◌≤◌, ◌<◌, List, [], ◌∷◌, ◌++◌, Result, Ok, Err}
use Rattle.std.proofs.Common.{refl, sym, ap, ◌∙◌, append_assoc, arith}
use Rattle.std.proofs.lemmas.List.{append-nil}
use Rattle.wire.specs.Outcome.{◌>>=◌, Fails}
use Rattle.kept_walk.specs.declared.fault.Fault.{Fault}
use Rattle.kept_walk.specs.declared.fault.Fault.TheVariants.{Memory, Form}
use Rattle.kept_walk.specs.Outcome.{is_memory}
use Rattle.kept_walk.specs.Reading.{Reader, each_at}

-- what was read before, and what is still read
abbrev pub with_front : {A : Type 0} → List A → Result (List A × List ℕ) Fault
    → Result (List A × List ℕ) Fault
with_front front read = read >>= λ x. Ok (front ++ x.0, x.1)

-- a loop that reads so many items: those that were read, the place, and the bytes that are left
abbrev pub IsReading : {A : Type 0} → Reader A → List A → ℕ → ℕ → List ℕ → List ℕ → Type 0
IsReading at front count i rest bytes =
    with_front front (each_at at (count - i) rest) ≡ each_at at count bytes

module _ {A : Type 0} (at : Reader A) (front : List A) (count i : ℕ) (rest bytes : List ℕ)
    (so_far : IsReading at front count i rest bytes) where
  regroup : (x : A) (read : Result (List A × List ℕ) Fault)
      → with_front front (read >>= λ xs. Ok (x ∷ xs.0, xs.1)) ≡ with_front (front ++ x ∷ []) read
  regroup x (Ok xs) = ap (λ (ys : List A). Ok (ys, xs.1)) (simp append_assoc)
  regroup x (Err f) = refl

  pub goes_on : (x : A) (after : List ℕ) → i < count → at rest ≡ Ok (x, after)
      → IsReading at (front ++ x ∷ []) count (i + 1) after bytes
  unfolding each_at
  goes_on x after lt h =
      let k : count - i ≡ suc (count - (i + 1)) = omega arith in
      let one : with_front front (each_at at (count - i) rest)
      ≡ with_front (front ++ x ∷ []) (each_at at (count - (i + 1)) after) =
      rw (k, h) (regroup x (each_at at (count - (i + 1)) after)) in
      sym one ∙ so_far

  stopped : i < count → at rest ≡ Err Form → each_at at count bytes ≡ Err Form
  unfolding each_at
  stopped lt h =
      let k : count - i ≡ suc (count - (i + 1)) = omega arith in
      let one : with_front front (each_at at (count - i) rest) ≡ Err Form = rw (k, h) refl in
      sym so_far ∙ one

  pub fails : (e : Fault) → i < count → Fails is_memory e (at rest)
      → Fails is_memory e (each_at at count bytes)
  fails Memory lt h = tt
  fails Form lt h = stopped lt h

  pub is_done : count ≤ i → each_at at count bytes ≡ Ok (front, rest)
  unfolding each_at
  is_done le =
      let k : count - i ≡ 0 = omega arith in
      let one : with_front front (each_at at (count - i) rest) ≡ Ok (front, rest) =
      rw k (ap (λ (xs : List A). Ok (xs, rest)) (append-nil front)) in
      sym so_far ∙ one
