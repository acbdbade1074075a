-- One thing read after another.
use Rattle.std.specs.Prelude.{ℕ, zero, suc, List, [], ◌∷◌, ◌++◌, Result, Ok, Err}
use Rattle.block_walk.specs.declared.error.WalkError.{WalkError}
use Rattle.wire.specs.Outcome.{◌>>=◌}

-- this many steps from a state: what each gave, and the state after them
unfoldable pub steps : {S X : Type 0} → (S → Result (X × S) WalkError) → ℕ → S
    → Result (List X × S) WalkError
steps step zero s = Ok ([], s)
steps step (suc n) s = do
  first ← step s
  others ← steps step n first.1
  Ok (first.0 ∷ others.0, others.1)

-- after what was there before
abbrev pub with_front : {S X : Type 0} → List X → Result (List X × S) WalkError
    → Result (List X × S) WalkError
with_front front (Ok x) = Ok (front ++ x.0, x.1)
with_front front (Err e) = Err e
