-- The numbers of refusals, and their texts.
use Rattle.std.specs.Prelude.{ℕ, List, ◌++◌, codes, decimal}
use Rattle.journal.specs.declared.error.JournalError.{JournalError}
use Rattle.journal.specs.declared.error.JournalError.TheVariants.{Memory, Magic, Version, Checksum}
use Rattle.journal.specs.declared.error.JournalError.TheVariants.{Length, Size, Medium, Closed}

-- the number of a refusal, as text
abbrev pub code_of : JournalError → List ℕ
code_of Memory = codes "memory"
code_of Magic = codes "J1"
code_of Version = codes "J2"
code_of (Checksum at) = codes "J3"
code_of (Length at) = codes "J4"
code_of Size = codes "J5"
code_of Medium = codes "J6"
code_of Closed = codes "J7"

-- a refusal in a line, for people
abbrev pub text_of : JournalError → List ℕ
text_of Memory = codes "no memory"
text_of Magic = codes "J1: the journal does not begin with FZLJ"
text_of Version = codes "J2: the version of the journal is not 1"
text_of (Checksum at) =
    codes "J3: the checksum of the record at byte " ++ decimal at ++ codes " is wrong"
text_of (Length at) =
    codes "J4: the length of the record at byte " ++ decimal at ++ codes " is wrong"
text_of Size = codes "J5: the journal takes no record so long"
text_of Medium = codes "J6: the journal could not be written"
text_of Closed = codes "J7: the journal is closed, since its medium failed"
