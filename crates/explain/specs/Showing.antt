-- What a page shows, and why there is none.
use Rattle.std.specs.Prelude.{◌≡◌, ◌⊎◌, ⊤, ℕ, Bool, true, false, List, [], ◌∷◌, Option, None, Some}
use Rattle.std.specs.Prelude.{length, map, option_map, codes, string_bytes, is_some, if◌then◌else◌}
use Rattle.std.specs.List.{flat_map}
use Rattle.std.specs.Option.{option_copied}
use Rattle.std.specs.Str.{bytes_eq}
use Rattle.labels.specs.Labels.{Labels}
use Rattle.matchers.specs.Views.{QueryView}
use Rattle.reply_reader.specs.Replies.{text_said, told_of}
use Rattle.reply_reader.specs.declared.reply.Reply.{Reply}
use Rattle.asked_series.specs.Series.{IsSeries}
use Rattle.auditor.specs.Judgements.{AreLines, answers_of}
use Rattle.auditor.specs.declared.judgement.BlockTable.{BlockTable}
use Rattle.auditor.specs.declared.judgement.Line.{Line}
use Rattle.sha2.specs.Sha256.{sha256}
use Rattle.page_claims.specs.Judging.{place_of}
use Rattle.page_claims.specs.declared.told.Told.{Told}
use Rattle.page.specs.Pages.{IsPageOf, IsTextOf}
use Rattle.page_text.specs.declared.value.Values.{Values}
use Rattle.page_text.specs.declared.value.Values.TheVariants.{Whole, Doubles}
use Rattle.page.specs.declared.shown.Shown.{Shown}
use Rattle.page.specs.declared.write.Page.{Page}
use Rattle.state_claims.specs.Said.{ShowsState}
use Rattle.state_claims.specs.declared.found.FoundState.{FoundState}
use Rattle.kept_folder.specs.Folders.{IsStoreAt}
use Rattle.kept_folder.specs.declared.reading.FoundStore.{FoundStore}
use Rattle.store_audit.specs.declared.judging.StateReport.{StateReport}
use Rattle.store_audit.specs.declared.judging.StoreJudgement.TheVariants.{Told as Said}
use Rattle.store_command.specs.Asking.{NamesBoth, NamesOne}
use Rattle.store_command.specs.Judging.{IsFolderFault, IsJudged, IsJudgingFault}
use Rattle.store_command.specs.Marks.{mark_at, mark_text}
use Rattle.store_command.specs.Printing.{has_refused, refused_lines}
use Rattle.audit_command.specs.Asking.{directories_of}
use Rattle.audit_command.specs.Auditing.{IsAllOf, IsQueryOf, IsSelectionFault, IsAllowed}
use Rattle.audit_command.specs.Auditing.{IsReplyFault, IsTextFault, IsWritingFault}
use Rattle.audit_command.specs.Reading.{Host}
use Rattle.audit_command.specs.Walking.{AreTablesAt, IsFirstFault}
use Rattle.audit_command.specs.declared.fault.Fault.{Fault as AuditFault}
use Rattle.explain.specs.Series.{IsSeriesFault}
use Rattle.explain.specs.declared.answer.Found.{Found}
use Rattle.explain.specs.declared.judging.Judged.{Judged}
use Rattle.explain.specs.declared.command.Asked.{Asked}
use Rattle.explain.specs.declared.fault.Fault.{Fault}
use Rattle.explain.specs.declared.fault.Fault.TheVariants.{Audit, NoMeaning, Beside, Store}

-- the label set of the text, or none where no text is
abbrev pub IsAboutText : Option (List ℕ) → Option Labels → Type 0
IsAboutText None None = Unit {0}
IsAboutText None (Some labels) = ⊥
IsAboutText (Some text) None = ⊥
IsAboutText (Some text) (Some labels) = IsSeries text labels

-- the text that somebody asks about
abbrev pub about_text : Asked → Option (List ℕ)
about_text asked = option_map (λ text. text.now) asked.about

-- the series that somebody asks about
abbrev pub IsAbout : Asked → Option Labels → Type 0
IsAbout asked about = IsAboutText (about_text asked) about

-- there is a text, and it is no series, or memory failed
abbrev pub IsAboutTextFault : Option (List ℕ) → Fault → Type 0
IsAboutTextFault None fault = ⊥
IsAboutTextFault (Some text) fault = IsSeriesFault text fault

abbrev pub IsAboutFault : Asked → Fault → Type 0
IsAboutFault asked fault = IsAboutTextFault (about_text asked) fault

-- what values mean: whole numbers if nothing is said of them, and doubles if that is said
abbrev pub meaning_of : Option (List ℕ) → Option Values
meaning_of None = Some Whole
meaning_of (Some text) = if bytes_eq text (codes "doubles") then Some Doubles else None

-- what the values are said to mean, if it is a meaning
abbrev pub values_of : Asked → Option Values
values_of asked = meaning_of (option_map (λ text. text.now) asked.values)

-- what is said of the values is no meaning of them
pub record IsNoMeaning (asked : Asked) (fault : Fault) : Type 0 where
  pub none : values_of asked ≡ None
  pub fault_is : fault ≡ NoMeaning

-- a fault of the audit's own
abbrev pub IsAuditFault : (AuditFault → Type 0) → Fault → Type 0
IsAuditFault cause (Audit fault) = cause fault
IsAuditFault cause fault = ⊥

-- the folder of the store, if one is named
abbrev pub store_of : Asked → Option (List ℕ)
store_of asked = option_map (λ text. text.now) asked.store

-- a store is named, and directories too
pub record IsBeside (asked : Asked) (fault : Fault) : Type 0 where
  pub both : NamesBoth (store_of asked) (directories_of asked.audit)
  pub fault_is : fault ≡ Beside

-- it names a store, or directories, or neither
abbrev pub IsOneAim : Asked → Type 0
IsOneAim asked = NamesOne (store_of asked) (directories_of asked.audit)

-- what was done with each part of the reply that the text says, its answers and its rows
pub record IsToldIn (text : List ℕ) (told : Told) : Type 0 where
  pub reply : Reply
  pub says : text_said text ≡ Some (told_of reply)
  pub places : told.places.items ≡ map place_of reply.parts.items
  pub answers : told.answers.items ≡ flat_map answers_of reply.parts.items
  pub rows : told.rows ≡ reply.rows

-- the auditor's lines of the reply that the text says
pub record AreJudged (tables : List BlockTable) (query : QueryView) (text : List ℕ)
    (lines : List Line) : Type 0 where
  pub reply : Reply
  pub says : text_said text ≡ Some (told_of reply)
  pub are_lines : AreLines tables query reply lines

-- the auditor's lines; none, if no block is known
abbrev pub AreLinesOf : List BlockTable → QueryView → List ℕ → List Line → Type 0
AreLinesOf [] query text lines = lines ≡ []
AreLinesOf (table ∷ tables) query text lines = AreJudged (table ∷ tables) query text lines

-- what is said over the directories that are named
pub record IsOfBlocks (reads : Host) (asked : Asked) (query : QueryView) (text : List ℕ)
    (judged : Judged) : Type 0 where
  pub are_tables : AreTablesAt reads (directories_of asked.audit) judged.tables.items
  pub are_lines : AreLinesOf judged.tables.items query text judged.lines.items
  pub state : judged.state ≡ None

-- the lines over a state of the store whose head has this checksum, which state it is, and its mark
pub record IsStateOf (head : ℕ) (report : StateReport) (state : FoundState) : Type 0 where
  pub lines : state.lines.items ≡ report.lines.items
  pub found : state.is_found ≡ is_some report.found
  pub told : state.told ≡ report.told
  pub events : state.events ≡ report.events
  pub mark : string_bytes state.mark ≡ mark_text (mark_at head report.told)

-- What is said over the store that is found: the lines of the blocks whose files are refused, if
-- there are any; else the lines of the reply over a state.
pub data IsOfStore (query : QueryView) (reply : Reply) (store : FoundStore) (judged : Judged)
    : Type 0 where
  by_blocks : has_refused store.tables.items ≡ true → judged.tables.items ≡ []
      → judged.lines.items ≡ refused_lines 0 store.tables.items → judged.state ≡ None
      → IsOfStore query reply store judged
  by_state : (report : StateReport) (state : FoundState)
      → IsJudged query reply None store (Said report) → IsStateOf store.head report state
      → judged.tables.items ≡ [] → judged.lines.items ≡ [] → judged.state ≡ Some state
      → IsOfStore query reply store judged

-- what is said over the folder of a store, of the reply that the text says
pub record IsOfFolder (reads : Host) (folder : List ℕ) (query : QueryView) (text : List ℕ)
    (judged : Judged) : Type 0 where
  pub reply : Reply
  pub says : text_said text ≡ Some (told_of reply)
  pub store : FoundStore
  pub is_found : IsStoreAt reads folder store
  pub of_store : IsOfStore query reply store judged

-- what is said of the reply: over the store that is named, or else over the directories
abbrev pub IsJudgedBy : Option (List ℕ) → Host → Asked → QueryView → List ℕ → Judged → Type 0
IsJudgedBy None reads asked query text judged = IsOfBlocks reads asked query text judged
IsJudgedBy (Some folder) reads asked query text judged = IsOfFolder reads folder query text judged

-- what is asked, and what the reader and the folders hold
pub record HasRead (reads : Host) (input : Option (List ℕ)) (asked : Asked) (found : Found)
    : Type 0 where
  pub is_query : IsQueryOf asked.audit found.query
  pub is_about : IsAbout asked found.about
  pub is_meaning : values_of asked ≡ Some found.values
  pub all : IsAllOf input found.text.items
  pub is_told : IsToldIn found.text.items found.told
  pub one_aim : IsOneAim asked
  pub is_judged : IsJudgedBy (store_of asked) reads asked found.query found.text.items found.judged

-- what is shown is what was read, with the length and the SHA-256 of the reply
pub record Shows (asked : Asked) (found : Found) (shown : Shown) : Type 0 where
  pub selector : shown.selector ≡ asked.audit.selector
  pub query : shown.query.now ≡ found.query
  pub told : shown.told.now ≡ found.told
  pub tables : shown.tables.now ≡ found.judged.tables.items
  pub lines : shown.lines.now ≡ found.judged.lines.items
  pub state : ShowsState found.judged.state (option_copied shown.state)
  pub values : shown.values ≡ found.values
  pub about : option_copied shown.about ≡ found.about
  pub length_is : shown.length ≡ length found.text.items
  pub digest_is : shown.digest ≡ sha256 found.text.items

-- the page is HTML, or a text for a terminal
abbrev pub IsShownAs : Bool → Shown → Page → Type 0
IsShownAs true shown page = IsTextOf shown page
IsShownAs false shown page = IsPageOf shown page

-- the page is that of what is shown, which was found
pub record IsPageOfFound (asked : Asked) (found : Found) (page : Page) : Type 0 where
  pub shown : Shown
  pub shows : Shows asked found shown
  pub page_is : IsShownAs asked.text shown page

-- the page shows what was read
pub record IsAnswer (reads : Host) (input : Option (List ℕ)) (asked : Asked) (page : Page)
    : Type 0 where
  pub found : Found
  pub has_read : HasRead reads input asked found
  pub page_of_found : IsPageOfFound asked found page

-- no directory stands beside a store, the query is accepted, and so is the series that somebody
-- asks about
pub record IsNamed (asked : Asked) : Type 0 where
  pub one_aim : IsOneAim asked
  pub query : IsAllowed asked.audit
  pub about : Option Labels
  pub is_about : IsAbout asked about

-- and so is what is said of the values
pub record IsTaken (asked : Asked) : Type 0 where
  pub named : IsNamed asked
  pub values : Values
  pub is_meaning : values_of asked ≡ Some values

-- why nothing is said over the folder of a store: it cannot be read, or what is found in it is
-- refused
abbrev pub IsStoreFault : Host → List ℕ → QueryView → List ℕ → Fault → Type 0
IsStoreFault reads folder query text (Store fault) =
    IsFolderFault reads folder fault
    ⊎ ((reply : Reply) × (text_said text ≡ Some (told_of reply))
    × (store : FoundStore) × IsStoreAt reads folder store
    × IsJudgingFault query reply None store fault)
IsStoreFault reads folder query text fault = ⊥

-- why nothing is said of the reply over what is named
abbrev pub IsJudgeFault : Option (List ℕ) → Host → Asked → QueryView → List ℕ → Fault → Type 0
IsJudgeFault None reads asked query text fault =
    IsAuditFault (IsFirstFault reads (directories_of asked.audit)) fault
    ⊎ IsAuditFault (IsTextFault text) fault
IsJudgeFault (Some folder) reads asked query text fault =
    IsStoreFault reads folder query text fault ⊎ IsAuditFault (IsTextFault text) fault

-- a reply was read, of which nothing is said over what is named
pub record IsUnjudged (reads : Host) (input : Option (List ℕ)) (asked : Asked) (fault : Fault)
    : Type 0 where
  pub query : QueryView
  pub is_query : IsQueryOf asked.audit query
  pub text : List ℕ
  pub all : IsAllOf input text
  pub told : Told
  pub is_told : IsToldIn text told
  pub is_fault : IsJudgeFault (store_of asked) reads asked query text fault

-- Why no page is written: by directories beside a store; by the query, if there are none; by the
-- series that is asked about, if the query is accepted too; by what is said of the values, if that
-- is; by the reply, if all are; by what is named, if there is a reply too; or by the writer, if
-- there is a page.
pub data IsAnswerFault (reads : Host) (input : Option (List ℕ)) (asked : Asked)
    (fault : Fault) : Type 0 where
  by_aim : IsBeside asked fault → IsAnswerFault reads input asked fault
  by_query : IsOneAim asked → IsAuditFault (IsSelectionFault asked.audit) fault
      → IsAnswerFault reads input asked fault
  by_series : IsOneAim asked → IsAllowed asked.audit → IsAboutFault asked fault
      → IsAnswerFault reads input asked fault
  by_values : IsNamed asked → IsNoMeaning asked fault → IsAnswerFault reads input asked fault
  by_reply : IsTaken asked → IsAuditFault (IsReplyFault input) fault
      → IsAnswerFault reads input asked fault
  by_folders : IsTaken asked → IsUnjudged reads input asked fault
      → IsAnswerFault reads input asked fault
  by_writing : (page : Page) → IsAnswer reads input asked page
      → IsAuditFault IsWritingFault fault → IsAnswerFault reads input asked fault
