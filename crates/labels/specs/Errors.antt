-- The numbers of refusals, and their texts.
use Rattle.std.specs.Prelude.{ℕ, List, codes}
use Rattle.labels.specs.declared.error.LabelError.{LabelError}
use Rattle.labels.specs.declared.error.LabelError.TheVariants.{BadName, Repeated, Limit, Memory}

-- the number of a refusal, as text
abbrev pub code_of : LabelError → List ℕ
code_of BadName = codes "L1"
code_of Repeated = codes "L2"
code_of Limit = codes "L3"
code_of Memory = codes "memory"

-- a refusal in a line, for people
abbrev pub text_of : LabelError → List ℕ
text_of BadName = codes "L1: a label name has the form [a-zA-Z_][a-zA-Z0-9_]*"
text_of Repeated = codes "L2: a label name stands twice"
text_of Limit = codes "L3: a label set has at most 64 labels"
text_of Memory = codes "no memory"
