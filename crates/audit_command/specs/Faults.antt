-- What each fault ends the program with: its status, and the line that tells it.
use Rattle.std.specs.Prelude.{ℕ, List, [], ◌++◌, Option, None, Some, codes, decimal}
use Rattle.std.specs.Prelude.{string_bytes}
use Rattle.std.specs.Fmt.{with_newline}
use Rattle.matchers.specs.Errors.{query_code, selector_code}
use Rattle.matchers.specs.declared.error.SelectorError.{SelectorError}
use Rattle.matchers.specs.declared.error.SelectorError.TheVariants as selector
use Rattle.audit_command.specs.declared.fault.Fault.{Fault}
use Rattle.audit_command.specs.declared.fault.Fault.TheVariants.{Words, Refused, CannotReadInput}
use Rattle.audit_command.specs.declared.fault.Fault.TheVariants.{BadReply, CannotRead}
use Rattle.audit_command.specs.declared.fault.Fault.TheVariants.{CannotWrite, Memory}
use Rattle.audit_command.specs.declared.fault.Refusal.{Refusal}
use Rattle.audit_command.specs.declared.fault.Refusal.TheVariants.{Selector, Query}
use Rattle.audit_command.specs.declared.files.ReadError.{ReadError}
use Rattle.audit_command.specs.declared.files.ReadError.TheVariants as failure

-- the code of a refusal
abbrev pub refusal_code : Refusal → List ℕ
refusal_code (Selector error) = selector_code error
refusal_code (Query error) = query_code error

-- where a text stops being a prefix of a selector
abbrev pub selector_place : SelectorError → Option ℕ
selector_place (selector.Syntax at) = Some at
selector_place selector.Empty = None
selector_place selector.TooMany = None
selector_place selector.PatternTooLong = None
selector_place selector.PatternRefused = None
selector_place selector.Memory = None

-- the place of the fault, where a refusal has one
abbrev pub refusal_place : Refusal → Option ℕ
refusal_place (Selector error) = selector_place error
refusal_place (Query error) = None

-- the place after the code
abbrev pub place_text : Option ℕ → List ℕ
place_text None = []
place_text (Some at) = codes " at " ++ decimal at

-- the code of a refusal, and the place of the fault
abbrev pub refusal_text : Refusal → List ℕ
refusal_text refusal = refusal_code refusal ++ place_text (refusal_place refusal)

-- the exit status
abbrev pub status_of : Fault → ℕ
status_of (Refused refusal) = 1
status_of (Words error) = 2
status_of CannotReadInput = 3
status_of BadReply = 3
status_of (CannotRead path) = 3
status_of CannotWrite = 3
status_of Memory = 4

-- what is told of the fault, for people; the text of the words is `clap`'s own
abbrev pub fault_text : Fault → Option (List ℕ)
fault_text (Words error) = None
fault_text (Refused refusal) = Some (codes "refused " ++ refusal_text refusal)
fault_text CannotReadInput = Some (codes "cannot read standard input")
fault_text BadReply = Some (codes "bad reply")
fault_text (CannotRead path) = Some (codes "cannot read " ++ string_bytes path)
fault_text CannotWrite = Some (codes "cannot write")
fault_text Memory = Some (codes "no memory")

-- the line that tells the fault: its text, and a line feed
abbrev pub line_of : Fault → Option (List ℕ)
line_of fault = with_newline (fault_text fault)

-- why a file is not read, for people
abbrev pub read_error_text : ReadError → List ℕ
read_error_text failure.Unreadable = codes "cannot read the file"
read_error_text failure.Memory = codes "no memory"

-- the fault that a refused selector makes
abbrev pub selector_fault : SelectorError → Fault
selector_fault (selector.Syntax at) = Refused (Selector (selector.Syntax at))
selector_fault selector.Empty = Refused (Selector selector.Empty)
selector_fault selector.TooMany = Refused (Selector selector.TooMany)
selector_fault selector.PatternTooLong = Refused (Selector selector.PatternTooLong)
selector_fault selector.PatternRefused = Refused (Selector selector.PatternRefused)
selector_fault selector.Memory = Memory
