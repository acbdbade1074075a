-- What each fault ends the program with: its status, and the line that tells it.
use Rattle.std.specs.Prelude.{◌++◌, ℕ, List, Option, None, Some, codes, decimal, string_bytes}
use Rattle.std.specs.Fmt.{with_newline}
use Rattle.audit_command.specs.Faults as audits
use Rattle.kept_walk.specs.Codes.{code_of}
use Rattle.kept_walk.specs.declared.error.KeptError.{KeptError}
use Rattle.kept_walk.specs.declared.error.KeptError.TheVariants as kept
use Rattle.store_command.specs.declared.fault.Earlier.{Earlier}
use Rattle.store_command.specs.declared.fault.Fault.{Fault}
use Rattle.store_command.specs.declared.fault.Fault.TheVariants.{Audit, NoMark, Journal, Head}
use Rattle.store_command.specs.declared.fault.Fault.TheVariants.{Event, Changes, Rolled, Before}

-- the exit status
abbrev pub status_of : Fault → ℕ
status_of (Audit fault) = audits.status_of fault
status_of NoMark = 2
status_of (Journal error) = 3
status_of Head = 3
status_of (Event at) = 3
status_of (Changes folder) = 3
status_of (Rolled mark) = 3
status_of (Before earlier) = 3

-- behind how many events a journal is refused, if an event is at fault
abbrev pub place_of : KeptError → Option ℕ
place_of kept.Memory = None
place_of (kept.Journal error) = None
place_of kept.Head = None
place_of (kept.Change at) = Some at
place_of (kept.Matcher at) = Some at

-- the refusal of a journal: its code, and the place
abbrev pub refusal_text : KeptError → List ℕ
refusal_text error = codes "refused " ++ code_of error ++ audits.place_text (place_of error)

-- `at event 5 of 7, before mark 5d3163ef:6: ask again`
abbrev pub earlier_text : Earlier → List ℕ
earlier_text earlier =
    codes "at event " ++ decimal earlier.at ++ codes " of " ++ decimal earlier.events
    ++ codes ", before mark " ++ string_bytes earlier.mark ++ codes ": ask again"

abbrev pub fault_text : Fault → Option (List ℕ)
fault_text (Audit fault) = audits.fault_text fault
fault_text NoMark = Some (codes "--since: no mark")
fault_text (Journal error) = Some (refusal_text error)
fault_text Head = Some (codes "refused K1")
fault_text (Event at) = Some (codes "refused K3 at " ++ decimal at)
fault_text (Changes folder) = Some (string_bytes folder ++ codes " changes")
fault_text (Rolled mark) = Some (codes "rolled since " ++ string_bytes mark ++ codes ": ask again")
fault_text (Before earlier) = Some (earlier_text earlier)

-- the line that tells the fault; the text of the words is `clap`'s own
abbrev pub line_of : Fault → Option (List ℕ)
line_of fault = with_newline (fault_text fault)
