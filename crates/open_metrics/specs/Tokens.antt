-- Words of a line: as many bytes as go on with them.
use Rattle.std.specs.Prelude.{ℕ, suc, Bool, false, not, ◌||◌, ◌==◌, List, [], ◌∷◌, length, take}
use Rattle.std.specs.Prelude.{drop, Result, Ok, Err, if◌then◌else◌}
use Rattle.std.specs.Char.{is_ascii_alphabetic, is_ascii_digit}
use Rattle.open_metrics.specs.declared.comments.Format.{Format}
use Rattle.open_metrics.specs.declared.comments.Format.TheVariants.{OpenMetrics, Prometheus}
use Rattle.open_metrics.specs.declared.error.Fault.{Fault}
use Rattle.open_metrics.specs.declared.error.Fault.TheVariants.{At}
use Rattle.open_metrics.specs.declared.error.Reason.{Reason}
use Rattle.open_metrics.specs.declared.tokens.Class.{Class}
use Rattle.open_metrics.specs.declared.tokens.Class.TheVariants.{Metric, Label, Digit, Mantissa}
use Rattle.open_metrics.specs.declared.tokens.Class.TheVariants.{Word, Blank}

-- letters, digits and `_`
abbrev pub in_name : ℕ → Bool
in_name c = is_ascii_alphabetic c || (is_ascii_digit c || c == 95)

-- whether a byte goes on with a word: the name of a metric may have `:`, the mantissa of a number
-- ends at `e` and `E`, and any other word at a blank, which is a space or a tab
abbrev pub goes_on : Class → ℕ → Bool
goes_on Metric c = in_name c || c == 58
goes_on Label c = in_name c
goes_on Digit c = is_ascii_digit c
goes_on Mantissa c = not (c == 101 || c == 69)
goes_on Word c = not (c == 32 || c == 9)
goes_on Blank c = c == 32 || c == 9

-- how many bytes of a word stand in front
unfoldable pub count_front : Class → List ℕ → ℕ
count_front class [] = 0
count_front class (c ∷ cs) = if goes_on class c then suc (count_front class cs) else 0

-- the word in front, and what stands behind it
abbrev pub front : Class → List ℕ → List ℕ
front class bytes = take (count_front class bytes) bytes

abbrev pub behind : Class → List ℕ → List ℕ
behind class bytes = drop (count_front class bytes) bytes

-- what stands behind blanks, which the older text may have
abbrev pub after_blanks : Format → List ℕ → List ℕ
after_blanks OpenMetrics bytes = bytes
after_blanks Prometheus bytes = behind Blank bytes

-- a name is not empty, and does not begin with a digit
abbrev pub is_begun : List ℕ → Bool
is_begun [] = false
is_begun (c ∷ cs) = not (is_ascii_digit c)

unfoldable pub name_at : Class → Reason → List ℕ → Result (List ℕ × List ℕ) Fault
name_at class reason bytes =
    if is_begun (front class bytes) then Ok (front class bytes, behind class bytes)
    else Err (At reason (length bytes))

-- what stands after this byte
unfoldable pub byte_at : ℕ → Reason → List ℕ → Result (List ℕ) Fault
byte_at c reason [] = Err (At reason 0)
byte_at c reason (b ∷ bytes) =
    if b == c then Ok bytes else Err (At reason (length (b ∷ bytes)))

-- what stands after a blank, and others behind it
unfoldable pub blanks_at : Reason → List ℕ → Result (List ℕ) Fault
blanks_at reason [] = Err (At reason 0)
blanks_at reason (c ∷ rest) =
    if goes_on Blank c then Ok (behind Blank rest) else Err (At reason (length (c ∷ rest)))

-- what stands after a space, in the older text after blanks
abbrev pub gap_at : Format → Reason → List ℕ → Result (List ℕ) Fault
gap_at OpenMetrics reason bytes = byte_at 32 reason bytes
gap_at Prometheus reason bytes = blanks_at reason bytes
