-- The numbers of faults, and their texts.
use Rattle.std.specs.Prelude.{ℕ, List, codes}
use Rattle.protobuf_fields.specs.declared.error.Fault.{Fault}
use Rattle.protobuf_fields.specs.declared.error.Fault.TheVariants as faults

-- the number of a fault, as text
abbrev pub code_of : Fault → List ℕ
code_of faults.Short = codes "U1"
code_of faults.TooBig = codes "U2"
code_of faults.Key = codes "U3"
code_of faults.Kind = codes "U4"
code_of faults.Unexpected = codes "U5"

-- a fault in a line, for people
abbrev pub text_of : Fault → List ℕ
text_of faults.Short = codes "U1: the bytes end within a field"
text_of faults.TooBig = codes "U2: a number is above 2^64 - 1"
text_of faults.Key = codes "U3: a field's number is 0 or above 2^29 - 1"
text_of faults.Kind = codes "U4: a field is of a kind that is not read"
text_of faults.Unexpected = codes "U5: a field is of another kind than the message says"
