-- Where a journal is refused, and the numbers and texts of refusals.
use Rattle.std.specs.Prelude.{ℕ, List, codes}
use Rattle.event_text.specs.Codes as text
use Rattle.event_journal.specs.declared.error.ContentError.{ContentError}
use Rattle.event_journal.specs.declared.error.ContentError.TheVariants.{Event, Number, Named}
use Rattle.journal.specs.declared.error.JournalError.{JournalError}
use Rattle.journal.specs.declared.error.JournalError.TheVariants as journal

-- the byte at which a journal is refused
abbrev pub journal_place : JournalError → ℕ
journal_place journal.Memory = 0
journal_place journal.Magic = 0
journal_place journal.Version = 4
journal_place (journal.Checksum at) = at
journal_place (journal.Length at) = at
journal_place journal.Size = 0
journal_place journal.Medium = 0
journal_place journal.Closed = 0

-- the number of a refusal, as text
abbrev pub content_code : ContentError → List ℕ
content_code (Event e) = text.event_code e
content_code Number = codes "J19"
content_code Named = codes "J20"

-- a refusal in a line, for people
abbrev pub content_text : ContentError → List ℕ
content_text (Event e) = text.event_text e
content_text Number = codes "J19: a record names a series by a number that none has"
content_text Named = codes "J20: a record names a series that has a number"
