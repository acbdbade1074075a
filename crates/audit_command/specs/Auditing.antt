-- What is said of a reply, and why nothing is.
use Rattle.std.specs.Prelude.{◌≡◌, ℕ, Bool, true, false, List, Option, None, Some}
use Rattle.std.specs.Prelude.{IfSome, string_bytes, if◌then◌else◌}
use Rattle.std.specs.List.{list_any}
use Rattle.matchers.specs.Queries.{is_query_range}
use Rattle.matchers.specs.Selectors.{IsAccepted, IsTextRefusal}
use Rattle.matchers.specs.Views.{MatcherView, QueryView}
use Rattle.matchers.specs.declared.error.QueryError.TheVariants.{BadRange, TooManyMatchers}
use Rattle.reply_reader.specs.Replies.{text_said, told_of}
use Rattle.reply_reader.specs.declared.reply.Reply.{Reply}
use Rattle.auditor.specs.Judgements.{AreLines, is_fault, lines_text}
use Rattle.auditor.specs.declared.judgement.BlockTable.{BlockTable}
use Rattle.auditor.specs.declared.judgement.Line.{Line}
use Rattle.audit_command.specs.Asking.{directories_of}
use Rattle.audit_command.specs.Reading.{Host}
use Rattle.audit_command.specs.Walking.{AreTablesAt, IsFirstFault}
use Rattle.audit_command.specs.declared.command.Asked.{Asked}
use Rattle.audit_command.specs.declared.fault.Fault.{Fault}
use Rattle.audit_command.specs.declared.fault.Fault.TheVariants.{Words, Refused, CannotReadInput}
use Rattle.audit_command.specs.declared.fault.Fault.TheVariants.{BadReply, CannotRead}
use Rattle.audit_command.specs.declared.fault.Fault.TheVariants.{CannotWrite, Memory}
use Rattle.audit_command.specs.declared.fault.Refusal.{Refusal}
use Rattle.audit_command.specs.declared.fault.Refusal.TheVariants.{Selector, Query}
use Rattle.audit_command.specs.declared.report.Outcome.{Outcome}
use Rattle.audit_command.specs.declared.report.Outcome.TheVariants.{Done, Flawed}
use Rattle.audit_command.specs.declared.report.Report.{Report}

-- the query that was asked: the selector is accepted as one of its matchers, and the ranges are one
pub record IsQueryOf (asked : Asked) (query : QueryView) : Type 0 where
  pub matchers : IsAccepted asked.selector.now query.matchers
  pub is_range : is_query_range asked.from asked.to ≡ true
  pub first : query.from ≡ asked.from
  pub last : query.to ≡ asked.to

-- the selector is accepted, and the range is none
pub record HasBadRange (asked : Asked) : Type 0 where
  pub ms : List MatcherView
  pub selector : IsAccepted asked.selector.now ms
  pub no_range : is_query_range asked.from asked.to ≡ false

-- when the query is refused: by the selector, and then by the range
abbrev pub IsSelectionRefusal : Asked → Refusal → Type 0
IsSelectionRefusal asked (Selector error) = IsTextRefusal asked.selector.now error
IsSelectionRefusal asked (Query BadRange) = HasBadRange asked
IsSelectionRefusal asked (Query TooManyMatchers) = ⊥

-- the query is refused so, or memory failed
abbrev pub IsSelectionFault : Asked → Fault → Type 0
IsSelectionFault asked (Refused refusal) = IsSelectionRefusal asked refusal
IsSelectionFault asked Memory = Unit {0}
IsSelectionFault asked (Words error) = ⊥
IsSelectionFault asked CannotReadInput = ⊥
IsSelectionFault asked BadReply = ⊥
IsSelectionFault asked (CannotRead path) = ⊥
IsSelectionFault asked CannotWrite = ⊥

-- the query is accepted, its selector and its range
pub record IsAllowed (asked : Asked) : Type 0 where
  pub query : QueryView
  pub is_asked : IsQueryOf asked query

-- the text is all that the reader holds, where that is known
abbrev pub IsAllOf : Option (List ℕ) → List ℕ → Type 0
IsAllOf input text = IfSome input (λ all. text ≡ all)

-- what the reader holds is a text that says this reply
pub record IsReplyIn (input : Option (List ℕ)) (reply : Reply) : Type 0 where
  pub text : List ℕ
  pub all : IsAllOf input text
  pub says : text_said text ≡ Some (told_of reply)

-- what the reader holds is a reply
pub record HoldsReply (input : Option (List ℕ)) : Type 0 where
  pub reply : Reply
  pub holds : IsReplyIn input reply

-- what the reader holds is a text that is not of a reply's shape
pub record HoldsNoReply (input : Option (List ℕ)) : Type 0 where
  pub text : List ℕ
  pub all : IsAllOf input text
  pub says_none : text_said text ≡ None

-- the reader or memory failed
abbrev pub IsInputFault : Fault → Type 0
IsInputFault CannotReadInput = Unit {0}
IsInputFault Memory = Unit {0}
IsInputFault BadReply = ⊥
IsInputFault (Words error) = ⊥
IsInputFault (Refused refusal) = ⊥
IsInputFault (CannotRead path) = ⊥
IsInputFault CannotWrite = ⊥

-- why no reply is read of a text: it is none, or memory failed
abbrev pub IsTextFault : List ℕ → Fault → Type 0
IsTextFault text BadReply = text_said text ≡ None
IsTextFault text Memory = Unit {0}
IsTextFault text CannotReadInput = ⊥
IsTextFault text (Words error) = ⊥
IsTextFault text (Refused refusal) = ⊥
IsTextFault text (CannotRead path) = ⊥
IsTextFault text CannotWrite = ⊥

-- why no reply is read
abbrev pub IsReplyFault : Option (List ℕ) → Fault → Type 0
IsReplyFault input BadReply = HoldsNoReply input
IsReplyFault input CannotReadInput = Unit {0}
IsReplyFault input Memory = Unit {0}
IsReplyFault input (Words error) = ⊥
IsReplyFault input (Refused refusal) = ⊥
IsReplyFault input (CannotRead path) = ⊥
IsReplyFault input CannotWrite = ⊥

-- whether a line names a flaw or a refusal
abbrev pub has_fault : List Line → Bool
has_fault lines = list_any (λ line. is_fault line.judgement) lines

-- nothing is wrong, or a line names a flaw or a refusal
abbrev pub outcome_of : List Line → Outcome
outcome_of lines = if has_fault lines then Flawed else Done

-- the report is that of the lines of the reply to the query, over the blocks in the directories
pub record IsReport (reads : Host) (input : Option (List ℕ)) (asked : Asked)
    (report : Report) : Type 0 where
  pub query : QueryView
  pub is_asked : IsQueryOf asked query
  pub reply : Reply
  pub is_reply : IsReplyIn input reply
  pub tables : List BlockTable
  pub are_tables : AreTablesAt reads (directories_of asked) tables
  pub lines : List Line
  pub are_lines : AreLines tables query reply lines
  pub text_is : string_bytes report.text ≡ lines_text lines
  pub outcome_is : report.outcome ≡ outcome_of lines

-- memory or the writer failed
abbrev pub IsWritingFault : Fault → Type 0
IsWritingFault CannotWrite = Unit {0}
IsWritingFault Memory = Unit {0}
IsWritingFault (Words error) = ⊥
IsWritingFault (Refused refusal) = ⊥
IsWritingFault CannotReadInput = ⊥
IsWritingFault BadReply = ⊥
IsWritingFault (CannotRead path) = ⊥

-- Why an audit ends before its lines are written: by the query; by the reply, where the query is
-- accepted; by the directories, where there is a reply too; or by the writer, where there is a
-- report.
pub data IsAuditFault (reads : Host) (input : Option (List ℕ)) (asked : Asked)
    (fault : Fault) : Type 0 where
  by_query : IsSelectionFault asked fault → IsAuditFault reads input asked fault
  by_reply : IsAllowed asked → IsReplyFault input fault → IsAuditFault reads input asked fault
  by_directories : IsAllowed asked → HoldsReply input → IsFirstFault reads (directories_of asked)
      fault → IsAuditFault reads input asked fault
  by_writing : (report : Report) → IsReport reads input asked report → IsWritingFault fault
      → IsAuditFault reads input asked fault
