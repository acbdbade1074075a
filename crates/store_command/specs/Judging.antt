-- What is said of a reply over the folder of a store, and why nothing is.
use Rattle.std.specs.Prelude.{◌≡◌, ⊤, ℕ, true, List, Option, None, Some, Result, Ok, Err, length}
use Rattle.std.specs.Prelude.{map, option_map, string_bytes, if◌then◌else◌}
use Rattle.labels.specs.Parts.{Part}
use Rattle.matchers.specs.Views.{QueryView}
use Rattle.reply_reader.specs.declared.reply.Reply.{Reply}
use Rattle.auditor.specs.declared.judgement.BlockTable.TheVariants.{Walked}
use Rattle.audit_command.specs.Auditing.{HoldsReply, IsAllowed, IsQueryOf, IsReplyFault, IsReplyIn}
use Rattle.audit_command.specs.Auditing.{IsSelectionFault, IsWritingFault}
use Rattle.audit_command.specs.Reading.{Host}
use Rattle.audit_command.specs.declared.fault.Fault.{Fault as AuditFault}
use Rattle.audit_command.specs.declared.fault.Fault.TheVariants.{Memory}
use Rattle.kept_folder.specs.Folders.{IsStoreAt, IsStoreFault, IsUnreadJournal}
use Rattle.kept_folder.specs.declared.fault.StoreFault.{StoreFault}
use Rattle.kept_folder.specs.declared.fault.StoreFault.TheVariants as folders
use Rattle.kept_folder.specs.declared.reading.FoundStore.{FoundStore}
use Rattle.store_audit.specs.Reports.{IsJudgement}
use Rattle.store_audit.specs.declared.judging.StateReport.{StateReport}
use Rattle.store_audit.specs.declared.judging.StoreJudgement.{StoreJudgement}
use Rattle.store_audit.specs.declared.judging.StoreJudgement.TheVariants.{Told, BadHead, BadEvent}
use Rattle.store_command.specs.Marks.{IsMarkText, first_of, mark_at, mark_text, since_of}
use Rattle.store_command.specs.Printing.{IsRefusedReport, IsTold, has_refused, is_right}
use Rattle.store_command.specs.declared.command.Asked.{Asked}
use Rattle.store_command.specs.declared.fault.Earlier.{Earlier}
use Rattle.store_command.specs.declared.fault.Fault.{Fault}
use Rattle.store_command.specs.declared.fault.Fault.TheVariants.{Audit, NoMark, Journal, Head}
use Rattle.store_command.specs.declared.fault.Fault.TheVariants.{Event, Changes, Rolled, Before}
use Rattle.store_command.specs.declared.mark.Mark.{Mark}
use Rattle.store_command.specs.declared.mark.Since.{Since}
use Rattle.store_command.specs.declared.mark.Since.TheVariants as places
use Rattle.store_command.specs.declared.report.Report.{Report}

-- THE MARK

-- what is given to --since
abbrev pub since_text : Asked → Option (List ℕ)
since_text asked = option_map (λ text. text.now) asked.since

-- the mark that a text says, if one is given
abbrev pub IsMarkIn : Option (List ℕ) → Option Mark → Type 0
IsMarkIn None None = ⊤
IsMarkIn None (Some mark) = ⊥
IsMarkIn (Some text) None = ⊥
IsMarkIn (Some text) (Some mark) = IsMarkText text mark

-- a text is given, and says no mark
abbrev pub IsNoMarkText : Option (List ℕ) → Type 0
IsNoMarkText None = ⊥
IsNoMarkText (Some text) = (mark : Mark) → IsMarkText text mark → ⊥

pub record IsNoMark (asked : Asked) (fault : Fault) : Type 0 where
  pub none : IsNoMarkText (since_text asked)
  pub fault_is : fault ≡ NoMark

-- THE FOLDER

-- the folder is told to change, unless memory runs out
abbrev pub TellsChange : List ℕ → Fault → Type 0
TellsChange folder (Changes path) = string_bytes path ≡ folder
TellsChange folder (Audit Memory) = ⊤
TellsChange folder fault = ⊥

-- why a folder is not read, as it is told
abbrev pub IsToldAs : List ℕ → StoreFault → Fault → Type 0
IsToldAs folder (folders.Files fault) told = told ≡ Audit fault
IsToldAs folder (folders.Refused error) told = told ≡ Journal error
IsToldAs folder folders.Changes told = TellsChange folder told

abbrev pub IsFolderFault : Host → List ℕ → Fault → Type 0
IsFolderFault reads folder told =
    (fault : StoreFault) × IsStoreFault reads folder fault × IsToldAs folder fault told

abbrev pub IsJournalFault : Host → List ℕ → Fault → Type 0
IsJournalFault reads folder told =
    (fault : StoreFault) × IsUnreadJournal reads folder fault × IsToldAs folder fault told

-- THE STATES

-- from where on a state is sought in what is found
abbrev pub since_in : Option Mark → FoundStore → Since
since_in mark found = since_of mark found.head (length found.kept.events)

-- what is said of a reply over the store that is found, of whose blocks no files are refused
pub record IsJudged (query : QueryView) (reply : Reply) (mark : Option Mark) (found : FoundStore)
    (judgement : StoreJudgement) : Type 0 where
  pub parts : List Part
  pub walked : found.tables.items ≡ map Walked parts
  pub is : IsJudgement query reply (first_of (since_in mark found)) found.kept parts judgement

-- the mark of a journal that is gone, if the reply is right of no state that is there: then it may
-- be right of one that is gone
abbrev pub lost_mark : Since → StateReport → Option Mark
lost_mark places.Anywhere said = None
lost_mark (places.Held count) said = None
lost_mark (places.Rolled mark) said = if is_right said then None else Some mark

-- the text is that of the mark
abbrev pub IsTextOf : Option Mark → List ℕ → Type 0
IsTextOf None text = ⊥
IsTextOf (Some mark) text = text ≡ mark_text mark

-- the report says that the reply is right of a state before the mark, and of none from there on
-- (`earlier_replies` says that it is so), and this is told
pub record IsToldBefore (since : Since) (head : ℕ) (said : StateReport) (earlier : Earlier)
    : Type 0 where
  pub at_is : said.earlier ≡ Some earlier.at
  pub events_is : earlier.events ≡ said.events
  pub mark_is : string_bytes earlier.mark ≡ mark_text (mark_at head (first_of since))

-- what is told of a report: it is printed, unless the reply may be right of a state that is gone,
-- or is right of one before the mark alone
abbrev pub Tells : Since → ℕ → StateReport → Result Report Fault → Type 0
Tells since head said (Ok report) =
    (lost_mark since said ≡ None) × (said.earlier ≡ None) × IsTold since head said report
Tells since head said (Err (Rolled text)) = IsTextOf (lost_mark since said) (string_bytes text)
Tells since head said (Err (Before earlier)) = IsToldBefore since head said earlier
Tells since head said (Err (Audit Memory)) = ⊤
Tells since head said (Err fault) = ⊥

-- What is printed over the store that is found: the lines of the blocks whose files are refused, if
-- there are any; else the lines of the reply over a state.
pub data IsReportOf (query : QueryView) (reply : Reply) (mark : Option Mark) (found : FoundStore)
    (report : Report) : Type 0 where
  by_blocks : has_refused found.tables.items ≡ true
      → IsRefusedReport found.tables.items report → IsReportOf query reply mark found report
  by_state : (said : StateReport) → IsJudged query reply mark found (Told said)
      → lost_mark (since_in mark found) said ≡ None → said.earlier ≡ None
      → IsTold (since_in mark found) found.head said report
      → IsReportOf query reply mark found report

-- the reply is right of no state, and the journal is another than that of the mark
pub record IsLost (query : QueryView) (reply : Reply) (mark : Option Mark) (found : FoundStore)
    (text : List ℕ) : Type 0 where
  pub said : StateReport
  pub judged : IsJudged query reply mark found (Told said)
  pub text_is : IsTextOf (lost_mark (since_in mark found) said) text

-- the reply is right of a state before the mark, and of none from there on
pub record IsEarlier (query : QueryView) (reply : Reply) (mark : Option Mark) (found : FoundStore)
    (earlier : Earlier) : Type 0 where
  pub said : StateReport
  pub judged : IsJudged query reply mark found (Told said)
  pub told : IsToldBefore (since_in mark found) found.head said earlier

-- why nothing is printed over the store that is found
abbrev pub IsJudgingFault : QueryView → Reply → Option Mark → FoundStore → Fault → Type 0
IsJudgingFault query reply mark found Head = IsJudged query reply mark found BadHead
IsJudgingFault query reply mark found (Event at) = IsJudged query reply mark found (BadEvent at)
IsJudgingFault query reply mark found (Rolled text) =
    IsLost query reply mark found (string_bytes text)
IsJudgingFault query reply mark found (Before earlier) = IsEarlier query reply mark found earlier
IsJudgingFault query reply mark found (Audit Memory) = ⊤
IsJudgingFault query reply mark found fault = ⊥

-- ALL OF IT

-- a fault of an audit over directories
abbrev pub IsAuditFault : (AuditFault → Type 0) → Fault → Type 0
IsAuditFault cause (Audit fault) = cause fault
IsAuditFault cause fault = ⊥

-- what is asked, and what the reader holds
pub record HasRead (input : Option (List ℕ)) (asked : Asked) (mark : Option Mark)
    (query : QueryView) (reply : Reply) : Type 0 where
  pub is_mark : IsMarkIn (since_text asked) mark
  pub is_asked : IsQueryOf asked.audit query
  pub is_reply : IsReplyIn input reply

-- what is printed of the reply to the query, over the folder
pub record IsReport (reads : Host) (input : Option (List ℕ)) (asked : Asked) (report : Report)
    : Type 0 where
  pub mark : Option Mark
  pub query : QueryView
  pub reply : Reply
  pub has_read : HasRead input asked mark query reply
  pub found : FoundStore
  pub is_found : IsStoreAt reads asked.store.now found
  pub is_report : IsReportOf query reply mark found report

-- the mark that is given is one
abbrev pub HasMark : Asked → Type 0
HasMark asked = (mark : Option Mark) × IsMarkIn (since_text asked) mark

-- why nothing is printed of what is found
pub record IsFaultOfFound (reads : Host) (input : Option (List ℕ)) (asked : Asked) (fault : Fault)
    : Type 0 where
  pub mark : Option Mark
  pub query : QueryView
  pub reply : Reply
  pub has_read : HasRead input asked mark query reply
  pub found : FoundStore
  pub is_found : IsStoreAt reads asked.store.now found
  pub is_fault : IsJudgingFault query reply mark found fault

-- Why an audit ends before its lines are written: by the mark; by the query; by the reply, if the
-- query is accepted; by the folder, if there is a reply too; by what is found in it; or by the
-- writer, if there is a report.
pub data IsStoreAuditFault (reads : Host) (input : Option (List ℕ)) (asked : Asked)
    (fault : Fault) : Type 0 where
  by_mark : IsNoMark asked fault → IsStoreAuditFault reads input asked fault
  by_query : HasMark asked → IsAuditFault (IsSelectionFault asked.audit) fault
      → IsStoreAuditFault reads input asked fault
  by_reply : HasMark asked → IsAllowed asked.audit → IsAuditFault (IsReplyFault input) fault
      → IsStoreAuditFault reads input asked fault
  by_folder : HasMark asked → IsAllowed asked.audit → HoldsReply input
      → IsFolderFault reads asked.store.now fault → IsStoreAuditFault reads input asked fault
  by_found : IsFaultOfFound reads input asked fault → IsStoreAuditFault reads input asked fault
  by_writing : (report : Report) → IsReport reads input asked report
      → IsAuditFault IsWritingFault fault → IsStoreAuditFault reads input asked fault
