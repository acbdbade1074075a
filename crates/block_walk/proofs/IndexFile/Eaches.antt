-- One after another, each by the same step.
use Rattle.std.proofs.Common.{◌≡◌, ℕ, zero, suc, ◌+◌, ◌≤◌, List, [], ◌∷◌, ◌++◌, length, drop, Some, Result, Ok, Err, refl, sym, ap, ◌∙◌, append_assoc, arith}
use Rattle.std.specs.Prelude.{slice_get}
use Rattle.std.proofs.lemmas.List.{append-nil, drop_all}
use Rattle.block_walk.specs.declared.error.WalkError.{WalkError}
use Rattle.block_walk.specs.declared.error.WalkError.TheVariants.{Memory}
use Rattle.block_walk.specs.IndexFile.Outcome.{Fails}
use Rattle.wire.specs.Outcome.{◌>>=◌}
use Rattle.block_walk.specs.IndexFile.Each.{each, behind_items}

grouped : {X : Type 0} (front : List X) (x : X) (read : Result (List X) WalkError)
    → behind_items front (read >>= λ xs. Ok (x ∷ xs)) ≡ behind_items (front ++ x ∷ []) read
grouped front x (Ok xs) = ap (λ ys. Ok ys) (simp append_assoc)
grouped front x (Err e) = refl

pub items_nil : {X : Type 0} (read : Result (List X) WalkError) → behind_items [] read ≡ read
items_nil (Ok xs) = refl
items_nil (Err e) = refl

pub drop_at_place : {A : Type 0} (xs : List A) (i : ℕ) (a : A) → slice_get xs i ≡ Some a
    → drop i xs ≡ a ∷ drop (suc i) xs
drop_at_place [] i a e = absurd cc
drop_at_place (x ∷ xs) zero a e = let p : x ≡ a = cc in ap (λ y. y ∷ xs) p
drop_at_place (x ∷ xs) (suc i) a e = drop_at_place xs i a e

pub each_on : {A X : Type 0} (step : A → Result X WalkError) (as' : List A) (i : ℕ) (a : A) (x : X)
    (front : List X) (total : Result (List X) WalkError) → slice_get as' i ≡ Some a → step a ≡ Ok x
    → behind_items front (each step (drop i as')) ≡ total
    → behind_items (front ++ x ∷ []) (each step (drop (i + 1) as')) ≡ total
unfolding each
each_on step as' i a x front total g h so_far =
    let f : i + 1 ≡ suc i = omega arith in
    let one : behind_items front (each step (drop i as'))
    ≡ behind_items (front ++ x ∷ []) (each step (drop (suc i) as')) =
    rw (drop_at_place as' i a g, h) (grouped front x (each step (drop (suc i) as'))) in
    rw f (sym one ∙ so_far)

fails_in : {A X : Type 0} (e : WalkError) (read : Result A WalkError)
    (next : A → Result (List X) WalkError) (front : List X) (total : Result (List X) WalkError)
    → Fails e read → behind_items front (read >>= next) ≡ total → Fails e total
fails_in Memory read next front total f h = tt
fails_in e read next front total f h = sym (rw f at h)

pub each_fails : {A X : Type 0} (step : A → Result X WalkError) (e : WalkError) (as' : List A)
    (i : ℕ) (a : A) (front : List X) (total : Result (List X) WalkError) → slice_get as' i ≡ Some a
    → Fails e (step a)
    → behind_items front (each step (drop i as')) ≡ total → Fails e total
unfolding each
each_fails step e as' i a front total g f so_far =
    fails_in e (step a) (λ x. each step (drop (suc i) as') >>= λ xs. Ok (x ∷ xs)) front total f
    (rw (drop_at_place as' i a g) at so_far)

pub each_done : {A X : Type 0} (step : A → Result X WalkError) (as' : List A) (i : ℕ)
    (front : List X) (total : Result (List X) WalkError) → length as' ≤ i
    → behind_items front (each step (drop i as')) ≡ total → total ≡ Ok front
unfolding each
each_done step as' i front total le so_far =
    sym so_far ∙ rw (drop_all i as' le) (ap (λ ys. Ok ys) (append-nil front))
