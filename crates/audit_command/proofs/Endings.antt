-- How an audit ends says how the words end.
use Rattle.std.proofs.Common.{ℕ, List, Option, None, Some, refl}
use Rattle.std.specs.Io.KnownBytes.{Keeps}
use Rattle.audit_command.specs.Running.{KeepsAt}
use Rattle.audit_command.specs.declared.fault.Fault.{Fault}
use Rattle.audit_command.specs.declared.fault.Fault.TheVariants.{Words, Refused, CannotReadInput, BadReply, CannotRead, CannotWrite, Memory}

-- a writer that was not used holds what it held
pub keeps_itself : (old : Option (List ℕ)) → Keeps old old
keeps_itself None = tt
keeps_itself (Some xs) = refl

-- and keeps it, however the program ends
pub unused : (fault : Fault) (old : Option (List ℕ)) → KeepsAt fault old old
unused (Words error) old = keeps_itself old
unused (Refused refusal) old = keeps_itself old
unused CannotReadInput old = keeps_itself old
unused BadReply old = keeps_itself old
unused (CannotRead path) old = keeps_itself old
unused CannotWrite old = tt
unused Memory old = keeps_itself old
