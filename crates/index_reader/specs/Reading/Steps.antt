-- How checks follow one another: each comes where none before it has failed.
use Rattle.std.specs.Prelude.{ℕ, List, [], ◌∷◌, ◌++◌, Result, Ok, Err, zero, suc}
use Rattle.wire.specs.Outcome.{◌>>=◌}
use Rattle.index_reader.specs.declared.error.IndexError.{IndexError}

-- this many steps from a state: what each gave, and the state after them
unfoldable pub steps : {S X : Type 0}
    → (S → Result (X × S) IndexError) → ℕ → S → Result (List X × S) IndexError
steps step zero s = Ok ([], s)
steps step (suc n) s = do
  first ← step s
  others ← steps step n first.1
  Ok (first.0 ∷ others.0, others.1)

-- after what was there before
abbrev pub with_front : {S X : Type 0}
    → List X → Result (List X × S) IndexError → Result (List X × S) IndexError
with_front front (Ok x) = Ok (front ++ x.0, x.1)
with_front front (Err e) = Err e

-- what the step gives for each
unfoldable pub each : {A X : Type 0}
    → (A → Result X IndexError) → List A → Result (List X) IndexError
each step [] = Ok []
each step (a ∷ as') = do
  x ← step a
  xs ← each step as'
  Ok (x ∷ xs)

-- what was there before, and what was read
abbrev pub behind_items : {X : Type 0}
    → List X → Result (List X) IndexError → Result (List X) IndexError
behind_items front (Ok xs) = Ok (front ++ xs)
behind_items front (Err e) = Err e
