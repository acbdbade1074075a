-- Reading items up to the end of their kind, as a loop does.
use Rattle.std.proofs.Common.{◌≡◌, ℕ, suc, ◌-◌, ◌+◌, ◌≤◌, ◌<◌, List, [], ◌∷◌, ◌++◌, length}
use Rattle.std.proofs.Common.{Result, Ok, Err, Option, None, Some, refl, sym, ap, ◌∙◌, append_assoc}
use Rattle.std.proofs.Common.{arith}
use Rattle.std.proofs.lemmas.List.{append-nil}
use Rattle.wire.specs.Outcome.{◌>>=◌, Fails}
use Rattle.open_metrics.specs.declared.error.Fault.{Fault}
use Rattle.open_metrics.specs.declared.error.Fault.TheVariants.{Memory, At}
use Rattle.open_metrics.specs.declared.error.Reason.{Reason}
use Rattle.open_metrics.specs.Outcome.{is_memory}
use Rattle.open_metrics.specs.Texts.{Step, goes_with, until_end}

abbrev pub Items : Type 0 → Type 0
Items A = Result (List A × List ℕ) Fault

-- what was read before, and what is still read
abbrev pub with_front : {A : Type 0} → List A → Items A → Items A
with_front front read = read >>= λ x. Ok (front ++ x.0, x.1)

regroup : {A : Type 0} (front : List A) (n : A) (read : Items A)
    → with_front front (read >>= λ x. Ok (n ∷ x.0, x.1)) ≡ with_front (front ++ n ∷ []) read
regroup {A} front n (Ok x) = ap (λ (ns : List A). Ok (ns, x.1)) (simp append_assoc)
regroup front n (Err f) = refl

module _ {A : Type 0} (at : Step A) (reason : Reason) where
  one_more : (count i : ℕ) (bytes : List ℕ) → i < count
      → until_end at reason (count - i) bytes
      ≡ (at bytes >>= λ x. goes_with (λ rest. until_end at reason (count - (i + 1)) rest) x.0 x.1)
  unfolding until_end
  one_more count i bytes lt =
      let k : count - i ≡ suc (count - (i + 1)) = omega arith in
      ap (λ (n : ℕ). until_end at reason n bytes) k

  -- an item was read
  pub goes_on : (front : List A) (count i : ℕ) (bytes : List ℕ) (a : A) (after : List ℕ) (total :
      Items A)
      → i < count → at bytes ≡ Ok (Some a, after)
      → with_front front (until_end at reason (count - i) bytes) ≡ total
      → with_front (front ++ a ∷ []) (until_end at reason (count - (i + 1)) after) ≡ total
  goes_on front count i bytes a after total lt h so_far =
      let more = λ (rest : List ℕ). until_end at reason (count - (i + 1)) rest in
      let one : until_end at reason (count - i) bytes ≡ (more after >>= λ x. Ok (a ∷ x.0, x.1)) =
      one_more count i bytes lt
      ∙ ap (λ (r : Result (Option A × List ℕ) Fault). r >>= λ x. goes_with more x.0 x.1) h in
      sym (regroup front a (more after)) ∙ (sym (ap (with_front front) one) ∙ so_far)

  -- the end was read
  pub ends : (front : List A) (count i : ℕ) (bytes after : List ℕ) (total : Items A)
      → i < count → at bytes ≡ Ok (None, after)
      → with_front front (until_end at reason (count - i) bytes) ≡ total
      → total ≡ Ok (front, after)
  ends front count i bytes after total lt h so_far =
      let more = λ (rest : List ℕ). until_end at reason (count - (i + 1)) rest in
      let one : until_end at reason (count - i) bytes ≡ Ok ([], after) =
      one_more count i bytes lt
      ∙ ap (λ (r : Result (Option A × List ℕ) Fault). r >>= λ x. goes_with more x.0 x.1) h in
      sym so_far
      ∙ (ap (with_front front) one ∙ ap (λ (ns : List A). Ok (ns, after)) (append-nil front))

  stopped : (f : Fault) (front : List A) (count i : ℕ) (bytes : List ℕ) (total : Items A)
      → i < count → at bytes ≡ Err f
      → with_front front (until_end at reason (count - i) bytes) ≡ total → total ≡ Err f
  stopped f front count i bytes total lt h so_far =
      let more = λ (rest : List ℕ). until_end at reason (count - (i + 1)) rest in
      let one : until_end at reason (count - i) bytes ≡ Err f =
      one_more count i bytes lt
      ∙ ap (λ (r : Result (Option A × List ℕ) Fault). r >>= λ x. goes_with more x.0 x.1) h in
      sym so_far ∙ ap (with_front front) one

  -- the step failed
  pub fails : (f : Fault) (front : List A) (count i : ℕ) (bytes : List ℕ) (total : Items A)
      → i < count → Fails is_memory f (at bytes)
      → with_front front (until_end at reason (count - i) bytes) ≡ total → Fails is_memory f total
  fails Memory front count i bytes total lt h so_far = tt
  fails (At r n) front count i bytes total lt h so_far =
      stopped (At r n) front count i bytes total lt h so_far

  -- the end did not come
  pub runs_out : (front : List A) (count i : ℕ) (bytes : List ℕ) (total : Items A) → count ≤ i
      → with_front front (until_end at reason (count - i) bytes) ≡ total
      → total ≡ Err (At reason (length bytes))
  unfolding until_end
  runs_out front count i bytes total le so_far =
      let k : count - i ≡ 0 = omega arith in
      sym so_far ∙ ap (λ (n : ℕ). with_front front (until_end at reason n bytes)) k
