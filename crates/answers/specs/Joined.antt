-- The text of pieces.
use Rattle.std.specs.Prelude.{ℕ, List, Vec, flat_map}
use Rattle.std.specs.Global.{Global}

-- one after another
abbrev pub joined : List (Vec ℕ Global) → List ℕ
joined pieces = flat_map (λ (piece : Vec ℕ Global). piece.items) pieces
