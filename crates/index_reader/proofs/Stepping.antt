-- Loops that take one step after another.
use Rattle.std.proofs.Common.{◌≡◌, ℕ, suc, ◌-◌, ◌+◌, ◌≤◌, ◌<◌, List, [], ◌∷◌, ◌++◌, Result, Ok, Err}
use Rattle.std.proofs.Common.{refl, sym, ap, ◌∙◌, append_assoc, arith}
use Rattle.std.proofs.lemmas.List.{append-nil}
use Rattle.index_reader.specs.declared.error.IndexError.{IndexError}
use Rattle.index_reader.specs.declared.error.IndexError.TheVariants.{Memory}
use Rattle.index_reader.specs.Outcome.{Fails}
use Rattle.index_reader.specs.Reading.Steps.{steps, with_front}
use Rattle.wire.specs.Outcome.{◌>>=◌}
use Rattle.index_reader.specs.declared.chunk.Chunk.{Chunk}
use Rattle.index_reader.specs.Reading.Bodies.{behind}

abbrev ok : {A : Type 0} → A → Result A IndexError
ok x = Ok x

ok_is : {A : Type 0} (x y : A) → ok x ≡ ok y → x ≡ y
ok_is x y e = cc

with_regrouped : {S X : Type 0} (front : List X) (x : X) (read : Result (List X × S) IndexError)
    → with_front front (read >>= λ o. Ok (x ∷ o.0, o.1)) ≡ with_front (front ++ x ∷ []) read
with_regrouped front x (Ok o) = ap (λ xs. Ok (xs, o.1)) (simp append_assoc)
with_regrouped front x (Err f) = refl

pub with_nil : {S X : Type 0} (read : Result (List X × S) IndexError) → with_front [] read ≡ read
with_nil (Ok o) = refl
with_nil (Err e) = refl

pub goes_on : {S X : Type 0} (step : S → Result (X × S) IndexError) (front : List X) (count i : ℕ)
    (s : S) (x : X) (after : S) (total : Result (List X × S) IndexError) → i < count
    → step s ≡ Ok (x, after)
    → with_front front (steps step (count - i) s) ≡ total
    → with_front (front ++ x ∷ []) (steps step (count - (i + 1)) after) ≡ total
unfolding steps
goes_on step front count i s x after total lt h so_far =
    let k : count - i ≡ suc (count - (i + 1)) = omega arith in
    let one : with_front front (steps step (count - i) s)
    ≡ with_front (front ++ x ∷ []) (steps step (count - (i + 1)) after) =
    rw (k, h) (with_regrouped front x (steps step (count - (i + 1)) after)) in
    sym one ∙ so_far

fails_in : {S X : Type 0} (e : IndexError) (read : Result (X × S) IndexError) (next : X × S
    → Result (List X × S) IndexError) (front : List X) (total : Result (List X × S) IndexError)
    → Fails e read → with_front front (read >>= next) ≡ total → Fails e total
fails_in Memory read next front total f h = tt
fails_in e read next front total f h = sym (rw f at h)

pub ends : {S X : Type 0} (step : S → Result (X × S) IndexError) (e : IndexError) (front : List X)
    (count i : ℕ) (s : S) (total : Result (List X × S) IndexError) → i < count → Fails e (step s)
    → with_front front (steps step (count - i) s) ≡ total → Fails e total
unfolding steps
ends step e front count i s total lt f so_far =
    let k : count - i ≡ suc (count - (i + 1)) = omega arith in
    fails_in e (step s) (λ first. steps step (count - (i + 1)) first.1 >>= λ others. Ok (
      first.0 ∷ others.0,
      others.1,
    )) front total f (rw k at so_far)

pub is_done : {S X : Type 0} (step : S → Result (X × S) IndexError) (front : List X) (count i : ℕ)
    (s : S) (total : Result (List X × S) IndexError) → count ≤ i
    → with_front front (steps step (count - i) s) ≡ total → total ≡ Ok (front, s)
unfolding steps
is_done step front count i s total le so_far =
    let k : count - i ≡ 0 = omega arith in
    let one : with_front front (steps step (count - i) s) ≡ Ok (front, s) =
    rw k (ap (λ xs. Ok (xs, s)) (append-nil front)) in
    sym so_far ∙ one

-- what was read behind what was there
pub front_ok : {S X : Type 0} (front xs : List X) (s : S) (read : Result (List X × S) IndexError)
    → with_front front read ≡ Ok (xs, s) → (ys : List X) × (read ≡ Ok (ys, s)) × (xs ≡ front ++ ys)
front_ok {S} {X} front xs s (Ok o) h =
    let made : List X × S = (front ++ o.0, o.1) in
    let given : List X × S = (xs, s) in
    let e : made ≡ given = ok_is made given h in (
      o.0,
      ap (λ (t : S). Ok (o.0, t)) (ap (λ (p : List X × S). p.1) e),
      sym (ap (λ (p : List X × S). p.0) e),
    )
front_ok front xs s (Err e) h = absurd cc

pub front_fails : {S X : Type 0} (e : IndexError) (front : List X)
    (read : Result (List X × S) IndexError) → Fails e (with_front front read) → Fails e read
front_fails Memory front read f = tt
front_fails e front (Ok o) f = absurd cc
front_fails e front (Err g) f = cc

pub behind_front : (front : List Chunk) (c : Chunk)
    (read : Result (List Chunk × (Chunk × List ℕ)) IndexError)
    → with_front (front ++ c ∷ []) read ≡ with_front front (behind c read)
behind_front front c (Ok o) = ap (λ xs. Ok (xs, o.1)) (simp append_assoc)
behind_front front c (Err e) = refl
