-- The numbers of refusals, and their texts.
use Rattle.std.specs.Prelude.{ℕ, List, ◌++◌, codes}
use Rattle.matchers.specs.Errors.{matcher_text}
use Rattle.event_text.specs.declared.error.TextError.{TextError}
use Rattle.event_text.specs.declared.error.TextError.TheVariants.{Memory, Kind, Field, Labels}
use Rattle.event_text.specs.declared.error.TextError.TheVariants.{Runs, Bounds, Rest}
use Rattle.event_text.specs.declared.error.EventError.{EventError}
use Rattle.event_text.specs.declared.error.EventError.TheVariants.{Text, Matcher}

-- the number of a refusal, as text
abbrev pub code_of : TextError → List ℕ
code_of Memory = codes "memory"
code_of Kind = codes "J8"
code_of Field = codes "J9"
code_of Labels = codes "J10"
code_of Runs = codes "J11"
code_of Bounds = codes "J12"
code_of Rest = codes "J13"

abbrev pub event_code : EventError → List ℕ
event_code (Text e) = code_of e
event_code (Matcher e) = codes "J14"

-- a refusal in a line, for people
abbrev pub text_of : TextError → List ℕ
text_of Memory = codes "no memory"
text_of Kind = codes "J8: a record begins with no kind of event"
text_of Field = codes "J9: a record ends within a field, or a field is not well formed"
text_of Labels = codes "J10: the labels of a record are no label set"
text_of Runs = codes "J11: a run of a record is empty, or goes on with the label set before it"
text_of Bounds = codes "J12: the event of a record is outside its bounds"
text_of Rest = codes "J13: bytes follow the event of a record"

abbrev pub event_text : EventError → List ℕ
event_text (Text e) = text_of e
event_text (Matcher e) = codes "J14: a matcher of a record is refused: " ++ matcher_text e
