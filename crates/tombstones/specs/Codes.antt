-- The numbers of refusals, and their texts.
use Rattle.std.specs.Prelude.{ℕ, List, codes}
use Rattle.tombstones.specs.declared.error.TombstoneError.{TombstoneError}
use Rattle.tombstones.specs.declared.error.TombstoneError.TheVariants.{Memory, Magic, Version, Crc}
use Rattle.tombstones.specs.declared.error.TombstoneError.TheVariants.{Shape}

-- the number of a refusal, as text
abbrev pub code_of : TombstoneError → List ℕ
code_of Memory = codes "memory"
code_of Magic = codes "T1"
code_of Version = codes "T2"
code_of Crc = codes "T3"
code_of Shape = codes "T4"

-- a refusal in a line, for people
abbrev pub text_of : TombstoneError → List ℕ
text_of Memory = codes "no memory"
text_of Magic = codes "T1: the file does not begin with 01 30 BA 30"
text_of Version = codes "T2: the version is missing or not 1"
text_of Crc = codes "T3: the checksum is not that of the entries"
text_of Shape = codes "T4: the file is too short or too long, or holds no list of entries"
