-- What each fault ends the program with: its status, and the line that tells it.
use Rattle.std.specs.Prelude.{ℕ, List, [], ◌++◌, Option, None, Some, codes, decimal}
use Rattle.std.specs.Prelude.{string_bytes}
use Rattle.std.specs.Fmt.{with_newline}
use Rattle.labels.specs.Errors.{code_of}
use Rattle.labels.specs.declared.error.LabelError.{LabelError}
use Rattle.labels.specs.declared.error.LabelError.TheVariants as label
use Rattle.matchers.specs.Errors.{matcher_code, query_code, selector_code}
use Rattle.matchers.specs.declared.error.MatcherError.{MatcherError}
use Rattle.matchers.specs.declared.error.MatcherError.TheVariants as matcher
use Rattle.matchers.specs.declared.error.SelectorError.{SelectorError}
use Rattle.matchers.specs.declared.error.SelectorError.TheVariants as selector
use Rattle.folder_lock.specs.Holders.{holder_text}
use Rattle.head.specs.Codes.{commit_code}
use Rattle.head.specs.declared.error.CommitError.{CommitError}
use Rattle.head.specs.declared.error.CommitError.TheVariants as commit
use Rattle.block.specs.Codes as blocks
use Rattle.store_folder.specs.Codes.{read_cause, start_code, start_place}
use Rattle.store_folder.specs.declared.error.ReadError.{ReadError as JournalFault}
use Rattle.store_folder.specs.declared.error.StartCause.{StartCause}
use Rattle.store_folder.specs.declared.error.StartCause.TheVariants as causes
use Rattle.store_folder.specs.declared.error.StartError.{StartError}
use Rattle.store_folder.specs.declared.error.StartError.TheVariants as start
use Rattle.block.specs.declared.error.BlockError.{BlockError}
use Rattle.block.specs.declared.error.BlockError.TheVariants as block
use Rattle.snapshots.specs.Refusals.{open_code, snapshot_code}
use Rattle.snapshots.specs.declared.error.OpenError.{OpenError}
use Rattle.snapshots.specs.declared.error.OpenError.TheVariants as store
use Rattle.answers.specs.declared.error.AskError.{AskError}
use Rattle.answers.specs.declared.error.AskError.TheVariants as ask
use Rattle.server.specs.declared.error.ServeError.{ServeError}
use Rattle.server.specs.declared.error.ServeError.TheVariants as serve
use Rattle.commands.specs.declared.fault.Fault.{Fault}
use Rattle.commands.specs.declared.fault.Fault.TheVariants.{Words, Refused, CannotRead, CannotWrite}
use Rattle.commands.specs.declared.fault.Fault.TheVariants.{CannotWriteAt, Locked}
use Rattle.commands.specs.declared.fault.Fault.TheVariants.{CannotListen, Memory}
use Rattle.commands.specs.declared.fault.Fault.TheVariants.{NoListener, NoThread}
use Rattle.commands.specs.declared.fault.Refusal.{Refusal}
use Rattle.commands.specs.declared.fault.Refusal.TheVariants.{Labels, Matcher, Selector, Query}
use Rattle.commands.specs.declared.fault.Refusal.TheVariants.{Commit, Block, Open, Snapshot}
use Rattle.commands.specs.declared.fault.Refusal.TheVariants.{NotEmpty, Start, Unsettled}
use Rattle.commands.specs.declared.fault.Refusal.TheVariants.{WholeNumbers}
use Rattle.commands.specs.declared.files.ReadError.{ReadError}
use Rattle.commands.specs.declared.files.ReadError.TheVariants as failure

-- the code of a refusal
abbrev pub refusal_code : Refusal → List ℕ
refusal_code (Labels error) = code_of error
refusal_code (Matcher error) = matcher_code error
refusal_code (Selector error) = selector_code error
refusal_code (Query error) = query_code error
refusal_code (Commit error) = commit_code error
refusal_code (Block error) = blocks.code_of error
refusal_code (Open error) = open_code error
refusal_code (Snapshot error) = snapshot_code error
refusal_code (Start error) = start_code error
refusal_code WholeNumbers = codes "O5"
refusal_code NotEmpty = codes "O6"
refusal_code Unsettled = codes "O7"

-- where a text stops being a prefix of a selector
abbrev pub selector_place : SelectorError → Option ℕ
selector_place (selector.Syntax at) = Some at
selector_place selector.Empty = None
selector_place selector.TooMany = None
selector_place selector.PatternTooLong = None
selector_place selector.PatternRefused = None
selector_place selector.Memory = None

-- the number of the first refused sample of a batch
abbrev pub commit_place : CommitError → Option ℕ
commit_place (commit.OutOfBounds at) = Some at
commit_place (commit.OutOfOrder at) = Some at
commit_place (commit.Duplicate at) = Some at
commit_place commit.Limit = None
commit_place commit.CutTooLow = None
commit_place commit.TooManyParts = None
commit_place commit.Seat = None
commit_place commit.Journal = None
commit_place commit.Memory = None

-- the place of the fault, where a refusal has one
abbrev pub refusal_place : Refusal → Option ℕ
refusal_place (Labels error) = None
refusal_place (Matcher error) = None
refusal_place (Selector error) = selector_place error
refusal_place (Query error) = None
refusal_place (Commit error) = commit_place error
refusal_place (Block error) = None
refusal_place (Open error) = None
refusal_place (Snapshot error) = None
refusal_place (Start error) = Some (start_place error)
refusal_place WholeNumbers = None
refusal_place NotEmpty = None
refusal_place Unsettled = None

-- the place after the code
abbrev pub place_text : Option ℕ → List ℕ
place_text None = []
place_text (Some at) = codes " at " ++ decimal at

-- the code of a refusal, and the place of the fault
abbrev pub refusal_text : Refusal → List ℕ
refusal_text refusal = refusal_code refusal ++ place_text (refusal_place refusal)

-- the exit status
abbrev pub status_of : Fault → ℕ
status_of (Refused refusal) = 1
status_of (Words error) = 2
status_of (CannotRead path) = 3
status_of CannotWrite = 3
status_of (CannotWriteAt path) = 3
status_of (Locked folder holder) = 3
status_of (CannotListen port) = 3
status_of NoListener = 3
status_of NoThread = 3
status_of Memory = 4

-- what is told of the fault, for people; the text of the words is `clap`'s own
abbrev pub fault_text : Fault → Option (List ℕ)
fault_text (Words error) = None
fault_text (Refused refusal) = Some (codes "refused " ++ refusal_text refusal)
fault_text (CannotRead path) = Some (codes "cannot read " ++ string_bytes path)
fault_text CannotWrite = Some (codes "cannot write")
fault_text (CannotWriteAt path) = Some (codes "cannot write " ++ string_bytes path)
fault_text (Locked folder holder) =
    Some (codes "cannot lock " ++ string_bytes folder ++ codes ": " ++ holder_text holder)
fault_text (CannotListen port) = Some (codes "cannot listen on 127.0.0.1:" ++ decimal port)
fault_text NoListener = Some (codes "there is no listener any more")
fault_text NoThread = Some (codes "cannot make a thread")
fault_text Memory = Some (codes "no memory")

-- the line that tells the fault: its text, and a line feed
abbrev pub line_of : Fault → Option (List ℕ)
line_of fault = with_newline (fault_text fault)

-- why a file is not read, for people
abbrev pub read_error_text : ReadError → List ℕ
read_error_text failure.Unreadable = codes "cannot read the file"
read_error_text failure.Memory = codes "no memory"

-- the fault that a refused label set makes
abbrev pub label_fault : LabelError → Fault
label_fault label.BadName = Refused (Labels label.BadName)
label_fault label.Repeated = Refused (Labels label.Repeated)
label_fault label.Limit = Refused (Labels label.Limit)
label_fault label.Memory = Memory

-- the fault that a refused matcher makes
abbrev pub matcher_fault : MatcherError → Fault
matcher_fault matcher.BadName = Refused (Matcher matcher.BadName)
matcher_fault matcher.PatternTooLong = Refused (Matcher matcher.PatternTooLong)
matcher_fault matcher.PatternRefused = Refused (Matcher matcher.PatternRefused)
matcher_fault matcher.Memory = Memory

-- the fault that a refused selector makes
abbrev pub selector_fault : SelectorError → Fault
selector_fault (selector.Syntax at) = Refused (Selector (selector.Syntax at))
selector_fault selector.Empty = Refused (Selector selector.Empty)
selector_fault selector.TooMany = Refused (Selector selector.TooMany)
selector_fault selector.PatternTooLong = Refused (Selector selector.PatternTooLong)
selector_fault selector.PatternRefused = Refused (Selector selector.PatternRefused)
selector_fault selector.Memory = Memory

-- the fault that a refused event makes
abbrev pub commit_fault : CommitError → Fault
commit_fault (commit.OutOfBounds at) = Refused (Commit (commit.OutOfBounds at))
commit_fault (commit.OutOfOrder at) = Refused (Commit (commit.OutOfOrder at))
commit_fault (commit.Duplicate at) = Refused (Commit (commit.Duplicate at))
commit_fault commit.Limit = Refused (Commit commit.Limit)
commit_fault commit.CutTooLow = Refused (Commit commit.CutTooLow)
commit_fault commit.TooManyParts = Refused (Commit commit.TooManyParts)
commit_fault commit.Seat = Refused (Commit commit.Seat)
commit_fault commit.Journal = Refused (Commit commit.Journal)
commit_fault commit.Memory = Memory

-- the fault that a refused block makes
abbrev pub block_fault : BlockError → Fault
block_fault block.Meta = Refused (Block block.Meta)
block_fault (block.Index error) = Refused (Block (block.Index error))
block_fault (block.Chunks error) = Refused (Block (block.Chunks error))
block_fault (block.Tombstones error) = Refused (Block (block.Tombstones error))
block_fault block.UnknownSeries = Refused (Block block.UnknownSeries)
block_fault block.OutsideRange = Refused (Block block.OutsideRange)
block_fault block.Memory = Memory

-- the fault that a store which is not opened makes
abbrev pub open_fault : OpenError → Fault
open_fault store.BadPasses = Refused (Open store.BadPasses)
open_fault store.Limit = Refused (Open store.Limit)
open_fault store.Unavailable = Refused (Open store.Unavailable)
open_fault store.Memory = Memory

-- the fault that a store which gives no answer makes
abbrev pub ask_fault : AskError → Fault
ask_fault (ask.Snapshot error) = Refused (Snapshot error)
ask_fault ask.Memory = Memory

-- the fault that a server makes which ends too early
abbrev pub serve_fault : ServeError → Fault
serve_fault serve.NoListener = NoListener
serve_fault serve.NoThread = NoThread
serve_fault serve.Memory = Memory

-- the fault that a start's error makes, if neither memory nor the folder failed
abbrev pub start_fault : StartCause → StartError → Fault
start_fault causes.Memory error = Memory
start_fault causes.Folder error = Memory
start_fault causes.Refused error = Refused (Start error)

-- the fault that a journal makes which is not read
abbrev pub read_fault : JournalFault → Fault
read_fault error = start_fault (read_cause error) (start.Journal error)
