-- Loops that take one step after another.
use Rattle.std.proofs.Common.{◌≡◌, ℕ, suc, ◌-◌, ◌+◌, ◌≤◌, ◌<◌, List, [], ◌∷◌, ◌++◌, Result, Ok, Err, refl, sym, ap, ◌∙◌, append_assoc, arith}
use Rattle.std.proofs.lemmas.List.{append-nil}
use Rattle.block_walk.specs.declared.error.WalkError.{WalkError}
use Rattle.block_walk.specs.declared.error.WalkError.TheVariants.{Memory}
use Rattle.block_walk.specs.IndexFile.Outcome.{Fails}
use Rattle.wire.specs.Outcome.{◌>>=◌}
use Rattle.block_walk.specs.IndexFile.Steps.{steps, with_front}
use Rattle.block_walk.specs.declared.chunk.Chunk.{Chunk}
use Rattle.block_walk.specs.IndexFile.Bodies.{behind}

abbrev ok : {A : Type 0} → A → Result A WalkError
ok x = Ok x

ok_is : {A : Type 0} (x y : A) → ok x ≡ ok y → x ≡ y
ok_is x y e = cc

with_regrouped : {S X : Type 0} (front : List X) (x : X) (read : Result (List X × S) WalkError)
    → with_front front (read >>= λ o. Ok (x ∷ o.0, o.1)) ≡ with_front (front ++ x ∷ []) read
with_regrouped front x (Ok o) = ap (λ xs. Ok (xs, o.1)) (simp append_assoc)
with_regrouped front x (Err f) = refl

pub with_nil : {S X : Type 0} (read : Result (List X × S) WalkError) → with_front [] read ≡ read
with_nil (Ok o) = refl
with_nil (Err e) = refl

pub goes_on : {S X : Type 0} (step : S → Result (X × S) WalkError) (front : List X) (count i : ℕ)
    (s : S) (x : X) (after : S) (total : Result (List X × S) WalkError) → i < count
    → step s ≡ Ok (x, after)
    → with_front front (steps step (count - i) s) ≡ total
    → with_front (front ++ x ∷ []) (steps step (count - (i + 1)) after) ≡ total
unfolding steps
goes_on step front count i s x after total lt h so_far =
    let k : count - i ≡ suc (count - (i + 1)) = omega arith in
    let one : with_front front (steps step (count - i) s)
    ≡ with_front (front ++ x ∷ []) (steps step (count - (i + 1)) after) =
    rw (k, h) (with_regrouped front x (steps step (count - (i + 1)) after)) in
    sym one ∙ so_far

fails_in : {S X : Type 0} (e : WalkError) (read : Result (X × S) WalkError) (next : X × S
    → Result (List X × S) WalkError) (front : List X) (total : Result (List X × S) WalkError)
    → Fails e read → with_front front (read >>= next) ≡ total → Fails e total
fails_in Memory read next front total f h = tt
fails_in e read next front total f h = sym (rw f at h)

pub ends : {S X : Type 0} (step : S → Result (X × S) WalkError) (e : WalkError) (front : List X)
    (count i : ℕ) (s : S) (total : Result (List X × S) WalkError) → i < count → Fails e (step s)
    → with_front front (steps step (count - i) s) ≡ total → Fails e total
unfolding steps
ends step e front count i s total lt f so_far =
    let k : count - i ≡ suc (count - (i + 1)) = omega arith in
    fails_in e (step s) (λ first. steps step (count - (i + 1)) first.1 >>= λ others. Ok (
      first.0 ∷ others.0,
      others.1,
    )) front total f (rw k at so_far)

pub is_done : {S X : Type 0} (step : S → Result (X × S) WalkError) (front : List X) (count i : ℕ)
    (s : S) (total : Result (List X × S) WalkError) → count ≤ i
    → with_front front (steps step (count - i) s) ≡ total → total ≡ Ok (front, s)
unfolding steps
is_done step front count i s total le so_far =
    let k : count - i ≡ 0 = omega arith in
    let one : with_front front (steps step (count - i) s) ≡ Ok (front, s) =
    rw k (ap (λ xs. Ok (xs, s)) (append-nil front)) in
    sym so_far ∙ one

-- what was read after what was there
pub front_ok : {S X : Type 0} (front xs : List X) (s : S) (read : Result (List X × S) WalkError)
    → with_front front read ≡ Ok (xs, s) → (ys : List X) × (read ≡ Ok (ys, s)) × (xs ≡ front ++ ys)
front_ok {S} {X} front xs s (Ok o) h =
    let made : List X × S = (front ++ o.0, o.1) in
    let given : List X × S = (xs, s) in
    let e : made ≡ given = ok_is made given h in (
      o.0,
      ap (λ (t : S). Ok (o.0, t)) (ap (λ (p : List X × S). p.1) e),
      sym (ap (λ (p : List X × S). p.0) e),
    )
front_ok front xs s (Err e) h = absurd cc

pub front_fails : {S X : Type 0} (e : WalkError) (front : List X)
    (read : Result (List X × S) WalkError) → Fails e (with_front front read) → Fails e read
front_fails Memory front read f = tt
front_fails e front (Ok o) f = absurd cc
front_fails e front (Err g) f = cc

pub behind_front : (front : List Chunk) (c : Chunk)
    (read : Result (List Chunk × (Chunk × List ℕ)) WalkError)
    → with_front (front ++ c ∷ []) read ≡ with_front front (behind c read)
behind_front front c (Ok o) = ap (λ xs. Ok (xs, o.1)) (simp append_assoc)
behind_front front c (Err e) = refl
