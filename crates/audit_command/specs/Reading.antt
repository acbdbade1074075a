-- What is read of the files of a directory.
use Rattle.std.specs.Prelude.{◌≡◌, ℕ, List, [], ◌∷◌, ◌++◌, map, take, Option, None, Some, codes}
use Rattle.std.specs.Prelude.{string_bytes}
use Rattle.std.specs.Borrow.{Bor}
use Rattle.std.specs.List.{AllByRecursion}
use Rattle.block_walk.specs.BlockFiles.Checks.{Files}
use Rattle.audit_command.specs.declared.fault.Fault.{Fault}
use Rattle.audit_command.specs.declared.fault.Fault.TheVariants.{Words, Refused, CannotReadInput}
use Rattle.audit_command.specs.declared.fault.Fault.TheVariants.{BadReply, CannotRead}
use Rattle.audit_command.specs.declared.fault.Fault.TheVariants.{CannotWrite, Memory}
use Rattle.audit_command.specs.declared.files.BlockFiles.{BlockFiles}
use Rattle.audit_command.specs.declared.files.FileName.{FileName}
use Rattle.audit_command.specs.declared.files.FileName.TheVariants.{Index, Chunks, Tombstones}
use Rattle.audit_command.specs.declared.files.ReadError.{ReadError}
use Rattle.audit_command.specs.declared.files.ReadError.TheVariants as failure

-- directories as bytes
abbrev pub paths_of : List (Bor (List ℕ)) → List (List ℕ)
paths_of directories = map (λ directory. directory.now) directories

-- what reading a path may find: the bytes of a file, or nothing where it cannot be read
abbrev pub Host : Type 1
Host = List ℕ → Option (List ℕ) → Type 0

-- the bytes are those of the file at a path, at most so many of them
pub record AreFirstBytes (reads : Host) (path : List ℕ) (most : ℕ) (bytes : List ℕ) : Type 0 where
  pub file : List ℕ
  pub found : reads path (Some file)
  pub first : bytes ≡ take most file

-- why a path is not read: nothing can be read there, or memory failed
abbrev pub IsReadFailure : Host → List ℕ → ReadError → Type 0
IsReadFailure reads path failure.Unreadable = reads path None
IsReadFailure reads path failure.Memory = Unit {0}

-- where a file of a block stands in its directory
abbrev pub text_of : FileName → List ℕ
text_of Index = codes "index"
text_of Chunks = codes "chunks/000001"
text_of Tombstones = codes "tombstones"

-- the path of a file of a directory
abbrev pub path_of : List ℕ → FileName → List ℕ
path_of directory name = directory ++ (codes "/" ++ text_of name)

-- The bytes are those of a file of a directory. A file may have 1 GiB; of one that is longer they
-- are the first that show it.
pub record IsRead (reads : Host) (directory : List ℕ) (name : FileName) (bytes : List ℕ) : Type 0
  where
    pub file : List ℕ
    pub found : reads (path_of directory name) (Some file)
    pub first : bytes ≡ take 1073741825 file

-- the bytes of the files of a directory
pub record AreRead (reads : Host) (directory : List ℕ) (files : BlockFiles) : Type 0 where
  pub index : IsRead reads directory Index files.index.items
  pub chunks : IsRead reads directory Chunks files.chunks.items
  pub tombstones : IsRead reads directory Tombstones files.tombstones.items

-- the three files of a directory, each of them whole
pub record AreFilesAt (reads : Host) (directory : List ℕ) (files : Files) : Type 0 where
  pub index : reads (path_of directory Index) (Some files.index)
  pub chunks : reads (path_of directory Chunks) (Some files.chunks)
  pub tombstones : reads (path_of directory Tombstones) (Some files.tombstones)

-- a file of a directory can be read
pub record IsFound (reads : Host) (directory : List ℕ) (name : FileName) : Type 0 where
  pub file : List ℕ
  pub found : reads (path_of directory name) (Some file)

-- the path is that of a file of a directory, and nothing can be read there
pub record IsUnreadAt (reads : Host) (directory : List ℕ) (name : FileName)
    (path : List ℕ) : Type 0 where
  pub is : path ≡ path_of directory name
  pub unread : reads path None

-- why a file of a directory is not read
abbrev pub IsFileFault : Host → List ℕ → FileName → Fault → Type 0
IsFileFault reads directory name (CannotRead path) =
    IsUnreadAt reads directory name (string_bytes path)
IsFileFault reads directory name Memory = Unit {0}
IsFileFault reads directory name CannotWrite = ⊥
IsFileFault reads directory name CannotReadInput = ⊥
IsFileFault reads directory name BadReply = ⊥
IsFileFault reads directory name (Words error) = ⊥
IsFileFault reads directory name (Refused refusal) = ⊥

-- the files of a block, in the order in which they are read
abbrev pub reading_order : List FileName
reading_order = Index ∷ Chunks ∷ Tombstones ∷ []

-- the path is that of the first file of a directory that cannot be read
pub record IsUnread (reads : Host) (directory path : List ℕ) : Type 0 where
  pub before : List FileName
  pub name : FileName
  pub after : List FileName
  pub order : reading_order ≡ before ++ name ∷ after
  pub each : AllByRecursion (λ (earlier : FileName). IsFound reads directory earlier) before
  pub at : IsUnreadAt reads directory name path

-- why the files of a directory are not read
abbrev pub IsReadingFault : Host → List ℕ → Fault → Type 0
IsReadingFault reads directory (CannotRead path) = IsUnread reads directory (string_bytes path)
IsReadingFault reads directory Memory = Unit {0}
IsReadingFault reads directory CannotWrite = ⊥
IsReadingFault reads directory CannotReadInput = ⊥
IsReadingFault reads directory BadReply = ⊥
IsReadingFault reads directory (Words error) = ⊥
IsReadingFault reads directory (Refused refusal) = ⊥
