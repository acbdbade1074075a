-- The labels of a sample.
use Rattle.std.specs.Prelude.{ℕ, ◌==◌, ◌&&◌, Bool, true, false, List, [], ◌∷◌, length, drop, map}
use Rattle.std.specs.Prelude.{Option, None, Some, option_map}
use Rattle.std.specs.Prelude.{Result, Ok, Err, if◌then◌else◌}
use Rattle.wire.specs.Outcome.{◌>>=◌}
use Rattle.open_metrics.specs.declared.comments.Format.{Format}
use Rattle.open_metrics.specs.declared.comments.Format.TheVariants.{OpenMetrics, Prometheus}
use Rattle.open_metrics.specs.declared.error.Fault.{Fault}
use Rattle.open_metrics.specs.declared.error.Fault.TheVariants.{At}
use Rattle.open_metrics.specs.declared.error.Reason.TheVariants.{Label, Text, Many}
use Rattle.open_metrics.specs.declared.tokens.Class.TheVariants as class
use Rattle.open_metrics.specs.declared.labels.Label.{Label as Held}
use Rattle.open_metrics.specs.Tokens.{after_blanks, byte_at, name_at}
use Rattle.open_metrics.specs.Texts.{text_at, until_end}

-- a name and a text
abbrev pub Pair : Type 0
Pair = List ℕ × List ℕ

-- a label without where it lies in memory
abbrev pub pair_in : Held → Pair
pair_in label = (label.name.now, label.text.items)

abbrev pub pairs_in : List Held → List Pair
pairs_in labels = map pair_in labels

abbrev pub next_in : Option Held → Option Pair
next_in next = option_map pair_in next

-- name="text"
unfoldable pub pair_at : Format → List ℕ → Result (Pair × List ℕ) Fault
pair_at format bytes = do
  name ← name_at class.Label Label (after_blanks format bytes)
  quote ← byte_at 61 Label (after_blanks format name.1)
  text ← byte_at 34 Text (after_blanks format quote)
  value ← text_at text
  Ok ((name.0, value.0), value.1)

-- whether a brace stands here
abbrev pub is_end : List ℕ → Bool
is_end [] = false
is_end (c ∷ cs) = c == 125

-- whether labels may end behind a comma: in the older text
abbrev pub may_end : Format → Bool
may_end OpenMetrics = false
may_end Prometheus = true

-- behind a comma: a label, or the end of the labels
unfoldable pub after_comma : Format → List ℕ → Result (Option Pair × List ℕ) Fault
after_comma format bytes =
    if may_end format && is_end (after_blanks format bytes)
    then Ok (None, drop 1 (after_blanks format bytes))
    else (pair_at format bytes >>= λ p. Ok (Some p.0, p.1))

unfoldable pub comma_at : Format → List ℕ → Result (Option Pair × List ℕ) Fault
comma_at format [] = Err (At Label 0)
comma_at format (c ∷ rest) =
    if c == 125 then Ok (None, rest)
    else if c == 44 then after_comma format rest
    else Err (At Label (length (c ∷ rest)))

-- a comma and a label, or the end of the labels
abbrev pub next_at : Format → List ℕ → Result (Option Pair × List ℕ) Fault
next_at format bytes = comma_at format (after_blanks format bytes)

-- labels after the first
unfoldable pub others_at : Format → List ℕ → Result (List Pair × List ℕ) Fault
others_at format bytes = until_end (next_at format) Many 64 bytes

-- what stands within braces
unfoldable pub within_at : Format → List ℕ → Result (List Pair × List ℕ) Fault
within_at format bytes =
    if is_end (after_blanks format bytes) then Ok ([], drop 1 (after_blanks format bytes))
    else (pair_at format bytes >>= λ p. others_at format p.1 >>= λ ps. Ok (p.0 ∷ ps.0, ps.1))

-- labels within braces, or none
unfoldable pub labels_at : Format → List ℕ → Result (List Pair × List ℕ) Fault
labels_at format [] = Ok ([], [])
labels_at format (c ∷ rest) = if c == 123 then within_at format rest else Ok ([], c ∷ rest)
