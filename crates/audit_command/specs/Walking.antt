-- What is known of the blocks in directories, and why it is not.
use Rattle.std.specs.Prelude.{◌≡◌, ℕ, List, ◌∷◌, ◌++◌}
use Rattle.std.specs.List.{AllZip}
use Rattle.block_walk.specs.declared.error.WalkError.{WalkError}
use Rattle.block_walk.specs.declared.error.WalkError.TheVariants.{Memory}
use Rattle.block_walk.specs.WalkCodes.{code_of}
use Rattle.block_walk.specs.BlockFiles.Checks.{Files, IsWalkError}
use Rattle.block_walk.specs.BlockFiles.Spelled.{IsWalked}
use Rattle.auditor.specs.declared.judgement.BlockTable.{BlockTable}
use Rattle.auditor.specs.declared.judgement.BlockTable.TheVariants.{Walked, Refused}
use Rattle.audit_command.specs.Reading.{Host, AreFilesAt, IsReadingFault}
use Rattle.audit_command.specs.declared.fault.Fault.{Fault}
use Rattle.audit_command.specs.declared.fault.Fault.TheVariants as fault
use Rattle.audit_command.specs.declared.files.BlockFiles.{BlockFiles}

-- the files fail a check of the walk, the first that fails, and this is its code
pub record IsRefusedAs (files : Files) (code : List ℕ) : Type 0 where
  pub error : WalkError
  pub no_memory : error ≡ Memory → ⊥
  pub refused : IsWalkError files error
  pub is : code ≡ code_of error

-- the bytes of files that were read
abbrev pub bytes_of : BlockFiles → Files
bytes_of files = record {
  index = files.index.items;
  chunks = files.chunks.items;
  tombstones = files.tombstones.items;
}

-- what is known of a block with these files: the part that they spell, or the code of the first
-- check that fails
abbrev pub IsTableOf : Files → BlockTable → Type 0
IsTableOf files (Walked part) = IsWalked files.index files.chunks files.tombstones part
IsTableOf files (Refused code) = IsRefusedAs files code.now

-- what is known of the block in a directory, by its files, each of them whole
pub record IsTableAt (reads : Host) (directory : List ℕ) (table : BlockTable) : Type 0 where
  pub files : Files
  pub found : AreFilesAt reads directory files
  pub known : IsTableOf files table

-- what is known of the blocks in directories, in their order
abbrev pub AreTablesAt : Host → List (List ℕ) → List BlockTable → Type 0
AreTablesAt reads directories tables = AllZip (IsTableAt reads) directories tables

-- the directories before one were read, and that one is at fault
pub record IsFaultAt (reads : Host) (directories : List (List ℕ)) (f : Fault) : Type 0 where
  pub before : List (List ℕ)
  pub directory : List ℕ
  pub after : List (List ℕ)
  pub order : directories ≡ before ++ directory ∷ after
  pub tables : List BlockTable
  pub known : AreTablesAt reads before tables
  pub at : IsReadingFault reads directory f

-- why the blocks in directories are not known: by the first of them of which a file cannot be read,
-- or by memory
abbrev pub IsFirstFault : Host → List (List ℕ) → Fault → Type 0
IsFirstFault reads directories (fault.CannotRead path) =
    IsFaultAt reads directories (fault.CannotRead path)
IsFirstFault reads directories fault.Memory = Unit {0}
IsFirstFault reads directories fault.CannotWrite = ⊥
IsFirstFault reads directories fault.CannotReadInput = ⊥
IsFirstFault reads directories fault.BadReply = ⊥
IsFirstFault reads directories (fault.Words error) = ⊥
IsFirstFault reads directories (fault.Refused refusal) = ⊥
