-- What opening an index gave, and what came of reading it.
use Rattle.std.specs.Prelude.{ℕ, List, Result, IfOk, IfErr, Vec}
use Rattle.std.proofs.Common.{Global}
use Rattle.index_reader.specs.Indexes.{Indexed, IsConsistent}
use Rattle.index_reader.specs.Checks.{IsRefused}
use Rattle.index_reader.specs.Spelled.{IsIndex}
use Rattle.index_reader.specs.declared.error.IndexError.{IndexError}
use Rattle.commands.specs.Reading.{Host, IsRead, IsFileFault}
use Rattle.commands.specs.declared.fault.Fault.{Fault}
use Rattle.commands.specs.declared.files.FileName.TheVariants.{Index}

-- the first check of these bytes that fails, or the index that they spell
pub record IsOpened (bytes : List ℕ) (opened : Result Indexed IndexError) : Type 0 where
  pub refused : IfErr opened (IsRefused bytes)
  pub spelled : IfOk opened (IsIndex bytes)
  pub consistent : IfOk opened IsConsistent

-- the bytes of an index, and what opening them gave
abbrev pub IndexRead : Type 0
IndexRead = Vec ℕ Global × Result Indexed IndexError

-- what came of reading and opening the index of a directory
abbrev pub IsIndexOutcome : Host → List ℕ → Result IndexRead Fault → Type 0
IsIndexOutcome reads directory read =
    IfOk read (λ index. IsRead reads directory Index index.0.items)
    × IfOk read (λ index. IsOpened index.0.items index.1)
    × IfErr read (λ fault. IsFileFault reads directory Index fault)
