-- Items one after the other, up to what ends them; the texts of labels.
use Rattle.std.specs.Prelude.{ℕ, zero, suc, ◌==◌, List, [], ◌∷◌, length, Option, None, Some}
use Rattle.std.specs.Prelude.{Result, Ok, Err, if◌then◌else◌}
use Rattle.wire.specs.Outcome.{◌>>=◌}
use Rattle.open_metrics.specs.declared.error.Fault.{Fault}
use Rattle.open_metrics.specs.declared.error.Fault.TheVariants.{At}
use Rattle.open_metrics.specs.declared.error.Reason.{Reason}
use Rattle.open_metrics.specs.declared.error.Reason.TheVariants.{Text}

-- the next item, or none where its kind ends, and what stands behind it
abbrev pub Step : Type 0 → Type 0
Step A = List ℕ → Result (Option A × List ℕ) Fault

-- an item before others, or none
abbrev pub goes_with : {A : Type 0} → (List ℕ → Result (List A × List ℕ) Fault) → Option A
    → List ℕ → Result (List A × List ℕ) Fault
goes_with others None rest = Ok ([], rest)
goes_with others (Some a) rest = others rest >>= λ x. Ok (a ∷ x.0, x.1)

-- the items up to the end of their kind, which must stand among so many
unfoldable pub until_end : {A : Type 0} → Step A → Reason → ℕ → List ℕ
    → Result (List A × List ℕ) Fault
until_end at reason zero bytes = Err (At reason (length bytes))
until_end at reason (suc n) bytes =
    at bytes >>= λ x. goes_with (λ rest. until_end at reason n rest) x.0 x.1

-- the character that an escape stands for: a backslash, a quote, the end of a line
abbrev pub escaped : ℕ → Option ℕ
escaped c =
    if c == 92 then Some 92
    else if c == 34 then Some 34
    else if c == 110 then Some 10
    else None

-- the character of an escape, or the backslash itself, where it begins none
abbrev pub or_backslash : List ℕ → List ℕ → Option ℕ → ℕ × List ℕ
or_backslash bytes rest None = (92, bytes)
or_backslash bytes rest (Some c) = (c, rest)

-- what a backslash in front of these bytes stands for, and what stands behind it
unfoldable pub escape_at : List ℕ → ℕ × List ℕ
escape_at [] = (92, [])
escape_at (c ∷ rest) = or_backslash (c ∷ rest) rest (escaped c)

-- the next character of a text, or its end
unfoldable pub char_at : List ℕ → Result (Option ℕ × List ℕ) Fault
char_at [] = Err (At Text 0)
char_at (c ∷ rest) =
    if c == 34 then Ok (None, rest)
    else if c == 92 then Ok (Some (escape_at rest).0, (escape_at rest).1)
    else if c == 10 then Err (At Text (length (c ∷ rest)))
    else Ok (Some c, rest)

-- a text after its first quote
unfoldable pub text_at : List ℕ → Result (List ℕ × List ℕ) Fault
text_at bytes = until_end char_at Text (length bytes) bytes
