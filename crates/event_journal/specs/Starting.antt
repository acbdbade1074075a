-- When a file is refused as no journal.
use Rattle.std.specs.Prelude.{◌≡◌, ℕ, List, length}
use Rattle.journal.specs.declared.error.JournalError.{JournalError}
use Rattle.journal.specs.declared.error.JournalError.TheVariants as journal
use Rattle.journal.specs.Records.{Begins, BeginsOtherwise, HasBadLength, IsDamaged, Splits}
use Rattle.journal.specs.Records.{file_of, header, magic}

-- a file is refused as no journal so
abbrev pub DeniesFile : List ℕ → JournalError → Type 0
DeniesFile file journal.Memory = ⊥
DeniesFile file journal.Magic = BeginsOtherwise magic file
DeniesFile file journal.Version = BeginsOtherwise header file × Begins magic file
DeniesFile file (journal.Checksum at) =
    (contents : List (List ℕ)) × Splits IsDamaged file contents × (at ≡ length (file_of contents))
DeniesFile file (journal.Length at) =
    (contents : List (List ℕ)) × Splits HasBadLength file contents
    × (at ≡ length (file_of contents))
DeniesFile file journal.Size = ⊥
DeniesFile file journal.Medium = ⊥
DeniesFile file journal.Closed = ⊥
