-- What a connection gets.
use Rattle.std.specs.Prelude.{ℕ, ◌++◌, List, Option, ⊤}
use Rattle.std.specs.Io.KnownBytes.{Appends}
use Rattle.waiting_room.specs.declared.source.Missed.{Missed}
use Rattle.waiting_room.specs.declared.reading.End.{End}
use Rattle.waiting_room.specs.declared.connection.Outcome.{Outcome}
use Rattle.waiting_room.specs.declared.connection.Outcome.TheVariants as ends
use Rattle.waiting_room.specs.Coming.{IsHanded}

-- bytes were handed over from the front of the input, and this text was made for these bytes and
-- their end
pub record Replies (made : List ℕ → End → List ℕ → Type 0) (most : ℕ) (input : Option (List ℕ))
    (text : List ℕ) : Type 0 where
  pub bytes : List ℕ
  pub end : End
  pub left : Option (List ℕ)
  pub last : Option Missed
  pub handed : IsHanded most input left last bytes end
  pub is_made : ∥ made bytes end text ∥₁

-- how a connection ended, by what came and what was written to it: a reply to what came, whole, or
-- the 503
abbrev pub Attends : (List ℕ → End → List ℕ → Type 0) → ℕ → List ℕ
    → Option (List ℕ) → Option (List ℕ) → Option (List ℕ) → Outcome → Type 0
Attends made most busy input old new (ends.Replied reply) =
    Replies made most input (reply.head.items ++ reply.body.items)
    × Appends old new (reply.head.items ++ reply.body.items)
Attends made most busy input old new (ends.Busy why) = Appends old new busy
Attends made most busy input old new ends.WriteFault = ⊤
