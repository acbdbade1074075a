-- The same step for each of a list, and lists in order.
use Rattle.std.specs.Prelude.{List, [], ◌∷◌, ◌++◌, Result, Ok, Err, Bool, true, ◌&&◌}
use Rattle.block_walk.specs.declared.error.WalkError.{WalkError}
use Rattle.wire.specs.Outcome.{◌>>=◌}

-- what the step gives for each
unfoldable pub each : {A X : Type 0} → (A → Result X WalkError) → List A → Result (List X) WalkError
each step [] = Ok []
each step (a ∷ as') = do
  x ← step a
  xs ← each step as'
  Ok (x ∷ xs)

-- what was there before, and what was read
abbrev pub behind_items : {X : Type 0} → List X → Result (List X) WalkError
    → Result (List X) WalkError
behind_items front (Ok xs) = Ok (front ++ xs)
behind_items front (Err e) = Err e

-- each is less than the next
unfoldable pub rises : {X : Type 0} → (X → X → Bool) → List X → Bool
rises less [] = true
rises less (a ∷ []) = true
rises less (a ∷ b ∷ rest) = less a b && rises less (b ∷ rest)
