-- The numbers of refusals, and their texts.
use Rattle.std.specs.Prelude.{ℕ, List, codes}
use Rattle.block_writer.specs.declared.error.WriteError.{WriteError}
use Rattle.block_writer.specs.declared.error.WriteError.TheVariants.{Memory, Limit}

-- the number of a refusal, as text
abbrev pub code_of : WriteError → List ℕ
code_of Memory = codes "memory"
code_of Limit = codes "N1"

-- a refusal in a line, for people
abbrev pub text_of : WriteError → List ℕ
text_of Memory = codes "no memory"
text_of Limit = codes "N1: the index or the chunks file would be longer than 1,073,741,824 bytes"
