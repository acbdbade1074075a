-- The numbers of refusals, and their texts.
use Rattle.std.specs.Prelude.{ℕ, List, codes}
use Rattle.xor_reader.specs.declared.error.XorError.{XorError}
use Rattle.xor_reader.specs.declared.error.XorError.TheVariants.{Memory, Short, Empty, Number}
use Rattle.xor_reader.specs.declared.error.XorError.TheVariants.{NotAscending, OutOfRange, Window}
use Rattle.xor_reader.specs.declared.error.XorError.TheVariants.{Trailing}

-- the number of a refusal, as text
abbrev pub code_of : XorError → List ℕ
code_of Memory = codes "memory"
code_of Short = codes "X1"
code_of Empty = codes "X2"
code_of Number = codes "X3"
code_of NotAscending = codes "X4"
code_of OutOfRange = codes "X5"
code_of Window = codes "X6"
code_of Trailing = codes "X7"

-- a refusal in a line, for people
abbrev pub text_of : XorError → List ℕ
text_of Memory = codes "no memory"
text_of Short = codes "X1: a chunk ends before its last sample does"
text_of Empty = codes "X2: a chunk counts no sample"
text_of Number = codes "X3: a chunk spells a number longer than it needs to be"
text_of NotAscending = codes "X4: the times of a chunk do not ascend"
text_of OutOfRange = codes "X5: a time of a chunk is outside -2^62 to 2^62 - 1"
text_of Window = codes "X6: the window of a value ends beyond its 64 bits"
text_of Trailing = codes "X7: a chunk goes on after its last sample"
