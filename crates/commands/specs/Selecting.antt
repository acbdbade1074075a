-- What a selection asks for, and why it is refused.
use Rattle.std.specs.Prelude.{◌≡◌, ℕ, true, false, List, Option}
use Rattle.std.specs.Io.KnownBytes.{Appends, Keeps}
use Rattle.matchers.specs.Queries.{is_query_range}
use Rattle.matchers.specs.Selectors.{IsAccepted, IsTextRefusal}
use Rattle.matchers.specs.Views.{MatcherView, QueryView}
use Rattle.matchers.specs.declared.error.QueryError.TheVariants.{BadRange}
use Rattle.head.specs.Heads.{SnapshotParts}
use Rattle.answers.specs.Audited.{IsAudited}
use Rattle.commands.specs.Opening.{IsOpeningOf, IsOpeningFault}
use Rattle.commands.specs.Printed.{line_text}
use Rattle.commands.specs.Reading.{Host}
use Rattle.answers.specs.declared.audited.AuditedAnswer.{AuditedAnswer}
use Rattle.commands.specs.declared.command.Selection.{Selection}
use Rattle.commands.specs.declared.fault.Fault.{Fault}
use Rattle.commands.specs.declared.fault.Fault.TheVariants.{Refused, CannotWrite, Memory}
use Rattle.commands.specs.declared.fault.Refusal.{Refusal}
use Rattle.commands.specs.declared.fault.Refusal.TheVariants.{Selector, Query}

-- the text of a selection is accepted as a selector of the query's matchers, and the ranges are one
pub record IsQueryOf (asked : Selection) (query : QueryView) : Type 0 where
  pub matchers : IsAccepted asked.selector.now query.matchers
  pub is_range : is_query_range asked.from asked.to ≡ true
  pub first : query.from ≡ asked.from
  pub last : query.to ≡ asked.to

-- the text of a selection is accepted as a selector, and its range is none
pub record HasBadRange (asked : Selection) : Type 0 where
  pub ms : List MatcherView
  pub selector : IsAccepted asked.selector.now ms
  pub no_range : is_query_range asked.from asked.to ≡ false

-- when a selection is refused: by its text, and then by its range
abbrev pub IsSelectionRefusal : Selection → Refusal → Type 0
IsSelectionRefusal asked (Selector error) = IsTextRefusal asked.selector.now error
IsSelectionRefusal asked (Query BadRange) = HasBadRange asked
IsSelectionRefusal asked other = ⊥

-- the selection is refused so, or memory failed
abbrev pub IsSelectionFault : Selection → Fault → Type 0
IsSelectionFault asked (Refused refusal) = IsSelectionRefusal asked refusal
IsSelectionFault asked Memory = Unit {0}
IsSelectionFault asked other = ⊥

-- an audited answer of the snapshot to the query was written, and a line feed
pub record WritesAnswer (query : QueryView) (snapshot : SnapshotParts)
    (old new : Option (List ℕ)) : Type 0 where
  pub answer : AuditedAnswer
  pub audited : IsAudited query snapshot answer
  pub written : Appends old new (line_text answer)

-- an audited answer to the selection was written, over the blocks that the directories hold, and a
-- line feed
pub record WritesSelection (reads : Host) (directories : List (List ℕ)) (asked : Selection)
    (old new : Option (List ℕ)) : Type 0 where
  pub query : QueryView
  pub is_asked : IsQueryOf asked query
  pub snapshot : SnapshotParts
  pub opened : IsOpeningOf reads directories snapshot
  pub answered : WritesAnswer query snapshot old new

-- the writer holds what it held, unless it failed
abbrev pub KeepsAt : Fault → Option (List ℕ) → Option (List ℕ) → Type 0
KeepsAt CannotWrite old new = Unit {0}
KeepsAt other old new = Keeps old new

-- memory or the writer failed
abbrev pub IsWritingFault : Fault → Type 0
IsWritingFault CannotWrite = Unit {0}
IsWritingFault Memory = Unit {0}
IsWritingFault other = ⊥

-- the selection is accepted, its text and its range
pub record IsAllowed (asked : Selection) : Type 0 where
  pub query : QueryView
  pub is_asked : IsQueryOf asked query

-- the directories hold the blocks of a snapshot
pub record AreOpened (reads : Host) (directories : List (List ℕ)) : Type 0 where
  pub snapshot : SnapshotParts
  pub opened : IsOpeningOf reads directories snapshot

-- why a selection over directories ends before it is done: by the selection; by the directories,
-- where the selection is accepted; or by memory or the writer, where the directories are opened too
pub data IsSelectFault (reads : Host) (directories : List (List ℕ)) (asked : Selection)
    (fault : Fault) : Type 0 where
  by_selection : IsSelectionFault asked fault → IsSelectFault reads directories asked fault
  by_directories : IsAllowed asked → IsOpeningFault reads directories fault
      → IsSelectFault reads directories asked fault
  by_writing : IsAllowed asked → AreOpened reads directories → IsWritingFault fault
      → IsSelectFault reads directories asked fault

-- memory alone failed
abbrev pub IsOfMemory : Fault → Type 0
IsOfMemory Memory = Unit {0}
IsOfMemory other = ⊥
