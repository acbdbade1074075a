-- The numbers of refusals, and their texts.
use Rattle.std.specs.Prelude.{ℕ, List, codes}
use Rattle.decimal_text.specs.declared.error.DecimalError.{DecimalError}
use Rattle.decimal_text.specs.declared.error.DecimalError.TheVariants.{Form, Finer, Large}

-- the number of a refusal, as text
abbrev pub code_of : DecimalError → List ℕ
code_of Form = codes "V1"
code_of Finer = codes "V2"
code_of Large = codes "V3"

-- a refusal in a line, for people
abbrev pub text_of : DecimalError → List ℕ
text_of Form = codes "V1: a number is not digits, perhaps with a point"
text_of Finer = codes "V2: a number has more digits after its point than are kept"
text_of Large = codes "V3: a number is 2^63 or more in the parts that are kept"
