use Rattle.std.proofs.Common.{◌≡◌, ℕ, ◌<◌, List, Option, None, Some, subst, sym}
use Rattle.std.specs.Prelude.{◌^◌, IfNone, IfSome}
use Rattle.std.specs.Borrow.{Bor}
use Rattle.span_text.specs.Spans.{IsSpan}
use Rattle.commands.specs.Upkeep.{IsKeepOf}
use Rattle.commands.proofs.upkeep.keep_of.Goals as goal

-- what is read of a text is what it writes
read_of : (text : Bor (List ℕ)) (keep : Option ℕ) → IfSome keep (IsSpan text.now)
    → IfNone keep ((n : ℕ) → IsSpan text.now n → n < 2 ^ 64 → ⊥) → IsKeepOf (Some text) keep
read_of text None some none = λ written. none written.0 written.1 written.2
read_of text (Some n) some none = some

pub returns-in-Some : goal.returns-in-Some
returns-in-Some c =
    subst (λ (option : Option (Bor (List ℕ))). IsKeepOf option c.span_of.result) (sym c.in-Some.is)
    (read_of c.in-Some.text c.span_of.result c.span_of.ensures.some c.span_of.ensures.none)
