-- What a step gives for each of a list, one after another.
use Rattle.std.proofs.Common.{◌≡◌, suc, length, List, [], ◌∷◌, Result, Ok, refl, ap}
use Rattle.block_walk.specs.declared.error.WalkError.{WalkError}
use Rattle.block_walk.specs.IndexFile.Each.{each}
use Rattle.wire.proofs.Steps.{bind_ok}
use Rattle.block_walk.proofs.IndexFile.Walks.{ok_is}

pub each_cons : {A X : Type 0} (step : A → Result X WalkError) (a : A) (as' : List A) (xs : List X)
    → each step (a ∷ as') ≡ Ok xs
    → (y : X) × (ys : List X) × (step a ≡ Ok y) × (each step as' ≡ Ok ys) × (y ∷ ys ≡ xs)
unfolding each
each_cons step a as' xs h =
    let y = bind_ok (step a) _ xs h in
    let ys = bind_ok (each step as') _ xs y.2 in
    (y.0, ys.0, y.1, ys.1, ok_is (y.0 ∷ ys.0) xs ys.2)

pub each_nil : {A X : Type 0} (step : A → Result X WalkError) (xs : List X)
    → each step [] ≡ Ok xs → [] ≡ xs
unfolding each
each_nil step xs h = ok_is [] xs h

pub each_length : {A X : Type 0} (step : A → Result X WalkError) (as' : List A) (xs : List X)
    → each step as' ≡ Ok xs → length xs ≡ length as'
unfolding each
each_length step [] xs h = let e : [] ≡ xs = ok_is [] xs h in rw (← e) refl
each_length step (a ∷ as') xs h =
    let x = bind_ok (step a) _ xs h in
    let ys = bind_ok (each step as') _ xs x.2 in
    let e : x.0 ∷ ys.0 ≡ xs = ok_is (x.0 ∷ ys.0) xs ys.2 in
    rw (← e) (ap suc (each_length step as' ys.0 ys.1))
