-- Reading items one after the other, as a loop does.
use Rattle.std.proofs.Common.{◌≡◌, ℕ, suc, ◌-◌, ◌+◌, ◌≤◌, ◌<◌, List, [], ◌∷◌, ◌++◌, Result, Ok, Err}
use Rattle.std.proofs.Common.{refl, sym, ap, ◌∙◌, append_assoc, arith}
use Rattle.std.proofs.lemmas.List.{append-nil}
use Rattle.wire.specs.Outcome.{◌>>=◌, Fails}
use Rattle.event_text.specs.declared.error.TextError.{TextError}
use Rattle.event_text.specs.declared.error.TextError.TheVariants.{Memory, Kind, Field, Labels, Runs}
use Rattle.event_text.specs.declared.error.TextError.TheVariants.{Bounds, Rest}
use Rattle.event_text.specs.Outcome.{is_memory}
use Rattle.event_text.specs.Reading.{each_at}

-- what was read before, and what is still read
abbrev pub with_front : {A : Type 0} → List A → Result (List A × List ℕ) TextError
    → Result (List A × List ℕ) TextError
with_front front read = read >>= λ x. Ok (front ++ x.0, x.1)

regroup : {A : Type 0} (front : List A) (n : A) (read : Result (List A × List ℕ) TextError)
    → with_front front (read >>= λ x. Ok (n ∷ x.0, x.1)) ≡ with_front (front ++ n ∷ []) read
regroup {A} front n (Ok x) = ap (λ (ns : List A). Ok (ns, x.1)) (simp append_assoc)
regroup front n (Err f) = refl

pub goes_on : {A : Type 0} (at : List ℕ → Result (A
    × List ℕ) TextError) (front : List A) (count i : ℕ) (bytes : List ℕ) (n : A) (after : List ℕ) (total : Result (List A × List ℕ) TextError) → i < count → at bytes ≡ Ok (n, after)
    → with_front front (each_at at (count - i) bytes) ≡ total
    → with_front (front ++ n ∷ []) (each_at at (count - (i + 1)) after) ≡ total
unfolding each_at
goes_on at front count i bytes n after total lt h so_far =
    let k : count - i ≡ suc (count - (i + 1)) = omega arith in
    let one : with_front front (each_at at (count - i) bytes) ≡ with_front (front ++ n ∷ []) (each_at at (count - (i + 1)) after) = rw (k, h) (regroup front n (each_at at (count - (i + 1)) after)) in
    sym one ∙ so_far

stopped : {A : Type 0} (at : List ℕ → Result (A
    × List ℕ) TextError) (f : TextError) (front : List A) (count i : ℕ) (bytes : List ℕ) (total : Result (List A × List ℕ) TextError) → i < count → at bytes ≡ Err f
    → with_front front (each_at at (count - i) bytes) ≡ total → total ≡ Err f
unfolding each_at
stopped at f front count i bytes total lt h so_far =
    let k : count - i ≡ suc (count - (i + 1)) = omega arith in
    let one : with_front front (each_at at (count - i) bytes) ≡ Err f = rw (k, h) refl in
    sym so_far ∙ one

pub ends : {A : Type 0} (at : List ℕ → Result (A
    × List ℕ) TextError) (e : TextError) (front : List A) (count i : ℕ) (bytes : List ℕ) (total : Result (List A × List ℕ) TextError) → i < count → Fails is_memory e (at bytes)
    → with_front front (each_at at (count - i) bytes) ≡ total → Fails is_memory e total
ends at Memory front count i bytes total lt h so_far = tt
ends at Kind front count i bytes total lt h so_far = stopped at Kind front count i bytes total lt h so_far
ends at Field front count i bytes total lt h so_far = stopped at Field front count i bytes total lt h so_far
ends at Labels front count i bytes total lt h so_far = stopped at Labels front count i bytes total lt h so_far
ends at Runs front count i bytes total lt h so_far = stopped at Runs front count i bytes total lt h so_far
ends at Bounds front count i bytes total lt h so_far = stopped at Bounds front count i bytes total lt h so_far
ends at Rest front count i bytes total lt h so_far = stopped at Rest front count i bytes total lt h so_far

pub is_done : {A : Type 0} (at : List ℕ → Result (A
    × List ℕ) TextError) (front : List A) (count i : ℕ) (bytes : List ℕ) (total : Result (List A
    × List ℕ) TextError) → count ≤ i → with_front front (each_at at (count - i) bytes) ≡ total
    → total ≡ Ok (front, bytes)
unfolding each_at
is_done {A} at front count i bytes total le so_far =
    let k : count - i ≡ 0 = omega arith in
    let one : with_front front (each_at at (count - i) bytes) ≡ Ok (front, bytes) = rw k (ap (λ (ns : List A). Ok (ns, bytes)) (append-nil front)) in
    sym so_far ∙ one
