-- The numbers of refusals, their places, and their texts.
use Rattle.std.specs.Prelude.{ℕ, List, ◌++◌, codes, decimal}
use Rattle.block.specs.declared.error.BlockError.{BlockError}
use Rattle.block.specs.declared.error.BlockError.TheVariants as block
use Rattle.block.specs.Codes as blocks
use Rattle.data_folder.specs.declared.rolling.RollError.{RollError}
use Rattle.data_folder.specs.declared.rolling.RollError.TheVariants as rolls
use Rattle.event_journal.specs.Codes.{journal_place}
use Rattle.event_text.specs.Codes as text
use Rattle.event_journal.specs.Codes as contents
use Rattle.event_journal.specs.declared.error.ContentError.{ContentError}
use Rattle.event_journal.specs.declared.error.ContentError.TheVariants as errors_of
use Rattle.event_text.specs.declared.error.EventError.TheVariants.{Text, Matcher}
use Rattle.event_text.specs.declared.error.TextError.{TextError}
use Rattle.event_text.specs.declared.error.TextError.TheVariants as texts
use Rattle.head.specs.Codes.{commit_text, replay_code, resume_code}
use Rattle.head.specs.declared.error.CommitError.{CommitError}
use Rattle.head.specs.declared.error.CommitError.TheVariants as commit
use Rattle.head.specs.declared.error.ResumeError.{ResumeError}
use Rattle.head.specs.declared.error.ResumeError.TheVariants as resume
use Rattle.journal.specs.Codes as journals
use Rattle.journal.specs.declared.error.JournalError.{JournalError}
use Rattle.journal.specs.declared.error.JournalError.TheVariants as journal
use Rattle.store_folder.specs.declared.error.BlockFault.{BlockFault}
use Rattle.store_folder.specs.declared.error.BlockFault.TheVariants as faults
use Rattle.store_folder.specs.declared.error.ReadError.{ReadError}
use Rattle.store_folder.specs.declared.error.ReadError.TheVariants.{Journal, Head, Event}
use Rattle.store_folder.specs.declared.error.RollFault.{RollFault}
use Rattle.store_folder.specs.declared.error.RollFault.TheVariants as roll
use Rattle.store_folder.specs.declared.error.StartCause.{StartCause}
use Rattle.store_folder.specs.declared.error.StartCause.TheVariants as causes
use Rattle.store_folder.specs.declared.error.StartError.{StartError}
use Rattle.store_folder.specs.declared.error.StartError.TheVariants as errors

-- the number of a journal's refusal, as text
abbrev pub read_code : ReadError → List ℕ
read_code (Journal e) = journals.code_of e
read_code (Head refused) = text.code_of refused.error
read_code (Event refused) = contents.content_code refused.error

-- that of a block's files
abbrev pub refused_code : BlockError → List ℕ
refused_code block.Memory = codes "memory"
refused_code block.Meta = codes "J16"
refused_code (block.Index e) = codes "J16"
refused_code (block.Chunks e) = codes "J16"
refused_code (block.Tombstones e) = codes "J16"
refused_code block.UnknownSeries = codes "J16"
refused_code block.OutsideRange = codes "J16"

abbrev pub block_code : BlockFault → List ℕ
block_code faults.Memory = codes "memory"
block_code faults.Medium = codes "folder"
block_code faults.Missing = codes "J15"
block_code (faults.Refused e) = refused_code e

-- the number of a refusal, as text
abbrev pub start_code : StartError → List ℕ
start_code errors.Medium = codes "folder"
start_code (errors.Journal e) = read_code e
start_code (errors.Block unread) = block_code unread.fault
start_code (errors.Head e) = resume_code e
start_code (errors.Event refused) = replay_code refused.error

-- at which byte, or after how many contents or events
abbrev pub read_place : ReadError → ℕ
read_place (Journal e) = journal_place e
read_place (Head refused) = refused.at
read_place (Event refused) = refused.at

-- the place of a refusal: of a block's it is the number of its folder
abbrev pub start_place : StartError → ℕ
start_place errors.Medium = 0
start_place (errors.Journal e) = read_place e
start_place (errors.Block unread) = unread.number
start_place (errors.Head e) = 0
start_place (errors.Event refused) = refused.at

-- what a refusal is: that of what the folder has, or that memory or the folder failed

abbrev pub head_cause : TextError → StartCause
head_cause texts.Memory = causes.Memory
head_cause texts.Kind = causes.Refused
head_cause texts.Field = causes.Refused
head_cause texts.Labels = causes.Refused
head_cause texts.Runs = causes.Refused
head_cause texts.Bounds = causes.Refused
head_cause texts.Rest = causes.Refused

abbrev pub event_cause : ContentError → StartCause
event_cause (errors_of.Event (Text e)) = head_cause e
event_cause (errors_of.Event (Matcher e)) = causes.Refused
event_cause errors_of.Number = causes.Refused
event_cause errors_of.Named = causes.Refused

abbrev pub journal_cause : JournalError → StartCause
journal_cause journal.Memory = causes.Memory
journal_cause journal.Magic = causes.Refused
journal_cause journal.Version = causes.Refused
journal_cause (journal.Checksum at) = causes.Refused
journal_cause (journal.Length at) = causes.Refused
journal_cause journal.Size = causes.Refused
journal_cause journal.Medium = causes.Refused
journal_cause journal.Closed = causes.Refused

abbrev pub read_cause : ReadError → StartCause
read_cause (Journal e) = journal_cause e
read_cause (Head refused) = head_cause refused.error
read_cause (Event refused) = event_cause refused.error

abbrev pub refused_cause : BlockError → StartCause
refused_cause block.Memory = causes.Memory
refused_cause block.Meta = causes.Refused
refused_cause (block.Index e) = causes.Refused
refused_cause (block.Chunks e) = causes.Refused
refused_cause (block.Tombstones e) = causes.Refused
refused_cause block.UnknownSeries = causes.Refused
refused_cause block.OutsideRange = causes.Refused

abbrev pub block_cause : BlockFault → StartCause
block_cause faults.Memory = causes.Memory
block_cause faults.Medium = causes.Folder
block_cause faults.Missing = causes.Refused
block_cause (faults.Refused e) = refused_cause e

abbrev pub resume_cause : ResumeError → StartCause
resume_cause resume.Memory = causes.Memory
resume_cause resume.Unsound = causes.Refused

abbrev pub step_cause : CommitError → StartCause
step_cause (commit.OutOfBounds at) = causes.Refused
step_cause (commit.OutOfOrder at) = causes.Refused
step_cause (commit.Duplicate at) = causes.Refused
step_cause commit.Limit = causes.Refused
step_cause commit.CutTooLow = causes.Refused
step_cause commit.TooManyParts = causes.Refused
step_cause commit.Seat = causes.Refused
step_cause commit.Journal = causes.Refused
step_cause commit.Memory = causes.Memory

abbrev pub cause_of : StartError → StartCause
cause_of errors.Medium = causes.Folder
cause_of (errors.Journal e) = read_cause e
cause_of (errors.Block unread) = block_cause unread.fault
cause_of (errors.Head e) = resume_cause e
cause_of (errors.Event refused) = step_cause refused.error

-- a refusal in a line, for people

abbrev pub read_text : ReadError → List ℕ
read_text (Journal e) = journals.text_of e
read_text (Head refused) =
    text.text_of refused.error
    ++ codes " (in the head, after " ++ decimal refused.at ++ codes " contents)"
read_text (Event refused) =
    contents.content_text refused.error
    ++ codes " (after " ++ decimal refused.at ++ codes " events)"

abbrev pub files_text : ℕ → BlockError → List ℕ
files_text number e =
    codes "J16: the files of block "
    ++ (decimal number ++ (codes " are refused: " ++ blocks.text_of e))

abbrev pub refused_text : ℕ → BlockError → List ℕ
refused_text number block.Memory = codes "no memory"
refused_text number block.Meta = files_text number block.Meta
refused_text number (block.Index e) = files_text number (block.Index e)
refused_text number (block.Chunks e) = files_text number (block.Chunks e)
refused_text number (block.Tombstones e) = files_text number (block.Tombstones e)
refused_text number block.UnknownSeries = files_text number block.UnknownSeries
refused_text number block.OutsideRange = files_text number block.OutsideRange

abbrev pub block_text : ℕ → BlockFault → List ℕ
block_text number faults.Memory = codes "no memory"
block_text number faults.Medium = codes "the folder could not be read"
block_text number faults.Missing =
    codes "J15: a file of block " ++ decimal number ++ codes " is missing"
block_text number (faults.Refused e) = refused_text number e

abbrev pub resume_text : ResumeError → List ℕ
resume_text resume.Memory = codes "no memory"
resume_text resume.Unsound =
    codes "J17: no snapshot has this floor, these blocks and these series"

abbrev pub start_text : StartError → List ℕ
start_text errors.Medium = codes "the folder could not be read or written"
start_text (errors.Journal e) = read_text e
start_text (errors.Block unread) = block_text unread.number unread.fault
start_text (errors.Head e) = resume_text e
start_text (errors.Event refused) =
    codes "J18: the event after "
    ++ (decimal refused.at ++ (codes " events is refused: " ++ commit_text refused.error))

-- why a journal does not begin with a new head, for people

abbrev pub unsaved_text : JournalError → List ℕ
unsaved_text journal.Memory = codes "no memory"
unsaved_text journal.Magic = codes "no memory"
unsaved_text journal.Version = codes "no memory"
unsaved_text (journal.Checksum at) = codes "no memory"
unsaved_text (journal.Length at) = codes "no memory"
unsaved_text journal.Size = codes "a series is too long to be saved"
unsaved_text journal.Medium = codes "no memory"
unsaved_text journal.Closed = codes "no memory"

abbrev pub unrolled_text : RollError → List ℕ
unrolled_text rolls.Closed = codes "the journal is closed"
unrolled_text rolls.NotWritten = codes "the next journal is not written"
unrolled_text rolls.Lost = codes "the journal is lost until the next start"

abbrev pub roll_text : RollFault → List ℕ
roll_text (roll.Text e) = unsaved_text e
roll_text (roll.Folder e) = unrolled_text e
roll_text roll.Memory = codes "no memory"
roll_text (roll.Block fault) = codes "a block is not written"
