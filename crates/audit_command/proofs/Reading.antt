-- Why what a reader holds gives no reply.
use Rattle.std.proofs.Common.{ℕ, List, Option}
use Rattle.audit_command.specs.Auditing.{IsAllOf, IsInputFault, IsTextFault, IsReplyFault}
use Rattle.audit_command.specs.declared.fault.Fault.{Fault}
use Rattle.audit_command.specs.declared.fault.Fault.TheVariants.{Words, Refused, CannotReadInput}
use Rattle.audit_command.specs.declared.fault.Fault.TheVariants.{BadReply, CannotRead, CannotWrite}
use Rattle.audit_command.specs.declared.fault.Fault.TheVariants.{Memory}

-- a reader that failed gives no reply
pub unread : (input : Option (List ℕ)) (fault : Fault) → IsInputFault fault
    → IsReplyFault input fault
unread input CannotReadInput h = tt
unread input Memory h = tt
unread input BadReply h = absurd h
unread input (Words error) h = h
unread input (Refused refusal) h = h
unread input (CannotRead path) h = h
unread input CannotWrite h = h

-- why a text that was read gives no reply
pub no_reply : (input : Option (List ℕ)) (text : List ℕ) → IsAllOf input text → (fault : Fault)
    → IsTextFault text fault → IsReplyFault input fault
no_reply input text all BadReply h = record { text = text; all = all; says_none = h }
no_reply input text all Memory h = tt
no_reply input text all CannotReadInput h = absurd h
no_reply input text all (Words error) h = h
no_reply input text all (Refused refusal) h = h
no_reply input text all (CannotRead path) h = h
no_reply input text all CannotWrite h = h
