use Rattle.std.proofs.Common.{take}
use Rattle.journal.specs.Contents.{contents_in}
use Rattle.journal.specs.Group.{IsJournalText}
use Rattle.journal.proofs.texts.file_text.Given as goal

abbrev pub invariant-loop-content : goal.invariant-loop-content
invariant-loop-content l = IsJournalText (contents_in (take l.content-index l.contents)) l.text.items
