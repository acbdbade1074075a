-- The names of outputs.
use Rattle.std.specs.Prelude.{ℕ, ◌-◌, List, ◌++◌, codes, decimal, length, replicate}

-- the name of the output of a number: its digits, at least four
abbrev pub output_name : ℕ → List ℕ
output_name number = replicate (4 - length (decimal number)) 48 ++ decimal number

-- its name while it is written
abbrev pub unfinished_name : ℕ → List ℕ
unfinished_name number = codes "." ++ (output_name number ++ codes "-unfinished")
