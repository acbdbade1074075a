-- The numbers of refusals, and their texts.
use Rattle.std.specs.Prelude.{ℕ, List, codes}
use Rattle.open_metrics.specs.declared.error.Reason.{Reason}
use Rattle.open_metrics.specs.declared.error.Reason.TheVariants.{Comment, Name, Kind, Label}
use Rattle.open_metrics.specs.declared.error.Reason.TheVariants.{Text, Many, Value, Time, After}

-- the number of a refusal, as text
abbrev pub code_of : Reason → List ℕ
code_of Comment = codes "P1"
code_of Name = codes "P2"
code_of Kind = codes "P3"
code_of Label = codes "P4"
code_of Text = codes "P5"
code_of Many = codes "P6"
code_of Value = codes "P7"
code_of Time = codes "P8"
code_of After = codes "P9"

-- a refusal in a line, for people
abbrev pub text_of : Reason → List ℕ
text_of Comment = codes "P1: a line is none of HELP, TYPE, UNIT, EOF and a sample"
text_of Name = codes "P2: no name of a metric stands here"
text_of Kind = codes "P3: no type of a metric stands here"
text_of Label = codes "P4: no label stands here"
text_of Text = codes "P5: no text of a label stands here"
text_of Many = codes "P6: a sample has more than 64 labels"
text_of Value = codes "P7: no value stands here"
text_of Time = codes "P8: no time in whole milliseconds stands here"
text_of After = codes "P9: something else stands after a sample"
