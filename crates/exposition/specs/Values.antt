-- Values that are kept as the numbers for their doubles.
use Rattle.std.specs.Prelude.{◌≡◌, ℕ, ◌-◌, ℤ, List, drop, length, Option, None, Some, FitsSigned}
use Rattle.std.specs.Int.{w64}
use Rattle.stored_doubles.specs.Stored.{IsStoredFor}
use Rattle.open_metrics.specs.declared.numbers.Value.{Value}
use Rattle.open_metrics.specs.declared.numbers.Value.TheVariants.{Parts, Other}
use Rattle.open_metrics.specs.declared.tokens.Class.TheVariants.{Word}
use Rattle.open_metrics.specs.Tokens.{front}

-- the word that stands so many bytes before the end of a line
abbrev pub text_before : List ℕ → ℕ → List ℕ
text_before line left = front Word (drop (length line - left) line)

-- what is kept for a double with these bits: the number for it; for none, no number
abbrev pub IsKeptFor : Option ℕ → Value → Type 0
IsKeptFor None value = value ≡ Other
IsKeptFor (Some bits) value =
    (v : ℤ) × (value ≡ Parts v) × FitsSigned w64 v × IsStoredFor bits v
