-- Why events are not kept.
use Rattle.keeper.specs.declared.error.KeepError.{KeepError}
use Rattle.keeper.specs.declared.error.KeepError.TheVariants.{Memory, TooLong, Failed, Closed}
use Rattle.journal.specs.declared.error.JournalError.{JournalError}
use Rattle.journal.specs.declared.error.JournalError.TheVariants as journal

-- by why their journal does not take them
abbrev pub keep_error : JournalError → KeepError
keep_error journal.Memory = Memory
keep_error journal.Size = TooLong
keep_error journal.Closed = Closed
keep_error journal.Medium = Failed
keep_error journal.Magic = Failed
keep_error journal.Version = Failed
keep_error (journal.Checksum at) = Failed
keep_error (journal.Length at) = Failed
