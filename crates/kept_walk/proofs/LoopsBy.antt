-- Reading items one after another, each after what those before it left, as a loop does.
use Rattle.std.proofs.Common.{◌≡◌, ℕ, suc, ◌-◌, ◌+◌, ◌≤◌, ◌<◌, List, [], ◌∷◌, ◌++◌, Ok, Err}
use Rattle.std.proofs.Common.{refl, sym, ap, ◌∙◌, append_assoc, arith}
use Rattle.std.proofs.lemmas.List.{append-nil}
use Rattle.wire.specs.Outcome.{◌>>=◌, Fails}
use Rattle.kept_walk.specs.declared.fault.Fault.{Fault}
use Rattle.kept_walk.specs.declared.fault.Fault.TheVariants.{Memory, Form}
use Rattle.kept_walk.specs.NumberedReading.{Read, ReaderBy, each_by}
use Rattle.kept_walk.specs.Outcome.{is_memory}

-- what was read before, and what is still read
abbrev pub with_front : {S A : Type 0} → List A → Read S (List A) → Read S (List A)
with_front front read = read >>= λ x. Ok ((front ++ x.0.0, x.0.1), x.1)

-- a loop that reads so many items: those that were read, the place, what is there now, and the
-- bytes that are left
abbrev pub IsReading : {S A : Type 0} → ReaderBy S A → List A → ℕ → ℕ → S → List ℕ → S → List ℕ
    → Type 0
IsReading at front count i now rest s bytes =
    with_front front (each_by at (count - i) now rest) ≡ each_by at count s bytes

module _ {S A : Type 0} (at : ReaderBy S A) where
  nothing_before : (read : Read S (List A)) → with_front [] read ≡ read
  nothing_before (Ok x) = refl
  nothing_before (Err f) = refl

  pub starts : (count : ℕ) (s : S) (bytes : List ℕ) → IsReading at [] count 0 s bytes s bytes
  starts count s bytes =
      let k : count - 0 ≡ count = omega arith in
      rw k (nothing_before (each_by at count s bytes))

module _ {S A : Type 0} (at : ReaderBy S A) (front : List A) (count i : ℕ) (now : S)
    (rest : List ℕ) (s : S) (bytes : List ℕ)
    (so_far : IsReading at front count i now rest s bytes) where
  abbrev as_read : List A → S → List ℕ → Read S (List A)
  as_read xs t left = Ok ((xs, t), left)

  regroup : (x : A) (read : Read S (List A))
      → with_front front (read >>= λ xs. Ok ((x ∷ xs.0.0, xs.0.1), xs.1))
      ≡ with_front (front ++ x ∷ []) read
  regroup x (Ok xs) = ap (λ (ys : List A). as_read ys xs.0.1 xs.1) (simp append_assoc)
  regroup x (Err f) = refl

  pub goes_on : (x : A) (next : S) (after : List ℕ) → i < count → at now rest ≡ Ok ((x, next), after)
      → IsReading at (front ++ x ∷ []) count (i + 1) next after s bytes
  unfolding each_by
  goes_on x next after lt h =
      let k : count - i ≡ suc (count - (i + 1)) = omega arith in
      let one : with_front front (each_by at (count - i) now rest)
      ≡ with_front (front ++ x ∷ []) (each_by at (count - (i + 1)) next after) =
      rw (k, h) (regroup x (each_by at (count - (i + 1)) next after)) in
      sym one ∙ so_far

  stopped : i < count → at now rest ≡ Err Form → each_by at count s bytes ≡ Err Form
  unfolding each_by
  stopped lt h =
      let k : count - i ≡ suc (count - (i + 1)) = omega arith in
      let one : with_front front (each_by at (count - i) now rest) ≡ Err Form = rw (k, h) refl in
      sym so_far ∙ one

  pub fails : (e : Fault) → i < count → Fails is_memory e (at now rest)
      → Fails is_memory e (each_by at count s bytes)
  fails Memory lt h = tt
  fails Form lt h = stopped lt h

  pub is_done : count ≤ i → each_by at count s bytes ≡ Ok ((front, now), rest)
  unfolding each_by
  is_done le =
      let k : count - i ≡ 0 = omega arith in
      let one : with_front front (each_by at (count - i) now rest) ≡ as_read front now rest =
      rw k (ap (λ (xs : List A). as_read xs now rest) (append-nil front)) in
      sym so_far ∙ one
