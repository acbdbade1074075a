-- Lines that begin with `#`.
use Rattle.std.specs.Prelude.{ℕ, Bool, true, false, ◌==◌, ◌||◌, ◌&&◌, List, [], ◌∷◌, length, codes}
use Rattle.std.specs.Prelude.{Result, Ok, Err, if◌then◌else◌}
use Rattle.std.specs.Str.{bytes_eq}
use Rattle.wire.specs.Outcome.{◌>>=◌}
use Rattle.open_metrics.specs.declared.error.Fault.{Fault}
use Rattle.open_metrics.specs.declared.error.Fault.TheVariants.{At}
use Rattle.open_metrics.specs.declared.error.Reason.TheVariants.{Comment, Name, Kind}
use Rattle.open_metrics.specs.declared.comments.Format.{Format}
use Rattle.open_metrics.specs.declared.comments.Format.TheVariants.{OpenMetrics, Prometheus}
use Rattle.open_metrics.specs.declared.tokens.Class.TheVariants.{Metric, Word}
use Rattle.open_metrics.specs.Tokens.{byte_at, count_front, front, behind, name_at}

-- the types of OpenMetrics, and those of the older text
abbrev pub is_open_type : List ℕ → Bool
is_open_type text =
    bytes_eq text (codes "counter") || (bytes_eq text (codes "gauge")
    || (bytes_eq text (codes "histogram") || (bytes_eq text (codes "gaugehistogram")
    || (bytes_eq text (codes "stateset") || (bytes_eq text (codes "info")
    || (bytes_eq text (codes "summary") || bytes_eq text (codes "unknown")))))))

abbrev pub is_older_type : List ℕ → Bool
is_older_type text =
    bytes_eq text (codes "counter") || (bytes_eq text (codes "gauge")
    || (bytes_eq text (codes "histogram") || (bytes_eq text (codes "summary")
    || bytes_eq text (codes "untyped"))))

abbrev pub is_type : Format → List ℕ → Bool
is_type OpenMetrics text = is_open_type text
is_type Prometheus text = is_older_type text

-- a space, the name of a metric, and a space
unfoldable pub family_at : List ℕ → Result (List ℕ) Fault
family_at bytes = do
  name ← byte_at 32 Name bytes
  rest ← name_at Metric Name name
  byte_at 32 Comment rest.1

-- behind `# HELP`: any text
unfoldable pub help_at : List ℕ → Result Bool Fault
help_at bytes = family_at bytes >>= λ text. Ok false

-- behind `# TYPE`
unfoldable pub type_at : Format → List ℕ → Result Bool Fault
type_at format bytes =
    family_at bytes >>= λ text.
    if is_type format text then Ok false else Err (At Kind (length text))

-- behind `# UNIT`
unfoldable pub unit_at : List ℕ → Result Bool Fault
unit_at bytes =
    family_at bytes >>= λ text.
    if count_front Metric text == length text then Ok false else Err (At Comment (length text))

-- another comment: none is one of OpenMetrics
abbrev pub other_at : Format → List ℕ → Result Bool Fault
other_at OpenMetrics bytes = Err (At Comment (length bytes))
other_at Prometheus bytes = Ok false

abbrev pub is_open : Format → Bool
is_open OpenMetrics = true
is_open Prometheus = false

-- behind `# `, whether the text ends here
unfoldable pub word_at : Format → List ℕ → Result Bool Fault
word_at format bytes =
    let word = front Word bytes in
    if bytes_eq word (codes "HELP") then help_at (behind Word bytes)
    else if bytes_eq word (codes "TYPE") then type_at format (behind Word bytes)
    else if is_open format && bytes_eq word (codes "UNIT") then unit_at (behind Word bytes)
    else if is_open format && bytes_eq bytes (codes "EOF") then Ok true
    else other_at format bytes

-- behind `#`, whether the text ends here
unfoldable pub comment_at : Format → List ℕ → Result Bool Fault
comment_at format [] = other_at format []
comment_at format (c ∷ rest) =
    if c == 32 then word_at format rest else other_at format (c ∷ rest)
