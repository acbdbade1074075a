-- What a writer has taken of a text.
use Rattle.std.specs.Prelude.{◌<◌, ℕ, List, Option, length}
use Rattle.std.specs.Io.KnownBytes.{Appends}
use Rattle.requests.specs.Heads.{IsFrontOf}

-- from one output to the other a prefix of the text was written, less than the whole, and nothing
-- else
pub record AppendsFront (before after : Option (List ℕ)) (text : List ℕ) : Type 0 where
  pub front : List ℕ
  pub begins : IsFrontOf front text
  pub shorter : length front < length text
  pub appends : Appends before after front
