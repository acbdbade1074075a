-- The numbers of refusals, and their texts.
use Rattle.std.specs.Prelude.{ℕ, List, codes}
use Rattle.wire.specs.declared.error.WireError.{WireError}
use Rattle.wire.specs.declared.error.WireError.TheVariants.{Short, LongForm, TooBig}

-- the number of a refusal, as text
abbrev pub code_of : WireError → List ℕ
code_of Short = codes "W1"
code_of LongForm = codes "W2"
code_of TooBig = codes "W3"

-- a refusal in a line, for people
abbrev pub text_of : WireError → List ℕ
text_of Short = codes "W1: too few bytes are left"
text_of LongForm = codes "W2: the number has a shorter spelling"
text_of TooBig = codes "W3: the number is above 2^64 - 1"
