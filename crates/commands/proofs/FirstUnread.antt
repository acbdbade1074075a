-- Which file is the first that cannot be read.
use Rattle.std.proofs.Common.{◌≡◌, ℕ, List, ◌∷◌, ◌++◌}
use Rattle.std.specs.List.{AllByRecursion}
use Rattle.commands.specs.Reading.{Host, IsRead, IsFound, IsFileFault, IsReadingFault}
use Rattle.commands.specs.Reading.{IsDirectoryFault, reading_order}
use Rattle.commands.specs.declared.fault.Fault.{Fault}
use Rattle.commands.specs.declared.fault.Fault.TheVariants.{Words, Refused, CannotRead, CannotWrite}
use Rattle.commands.specs.declared.fault.Fault.TheVariants.{CannotWriteAt, Locked}
use Rattle.commands.specs.declared.fault.Fault.TheVariants.{CannotListen, NoListener, NoThread}
use Rattle.commands.specs.declared.fault.Fault.TheVariants.{Memory}
use Rattle.commands.specs.declared.files.FileName.{FileName}

-- a file that was read can be read
pub found : (reads : Host) (directory : List ℕ) (name : FileName) (bytes : List ℕ)
    → IsRead reads directory name bytes → IsFound reads directory name
found reads directory name bytes read = record { file = read.file; found = read.found }

-- the fault of a file, after those before it were read
pub fault_after : (reads : Host) (directory : List ℕ) (before : List FileName) (name : FileName)
    (after : List FileName) → reading_order ≡ before ++ name ∷ after
    → AllByRecursion (λ (earlier : FileName). IsFound reads directory earlier) before
    → (fault : Fault) → IsFileFault reads directory name fault
    → IsReadingFault reads directory fault
fault_after reads directory before name after order each (CannotRead path) h =
    record { before = before; name = name; after = after; order = order; each = each; at = h }
fault_after reads directory before name after order each Memory h = tt
fault_after reads directory before name after order each CannotWrite h = h
fault_after reads directory before name after order each (CannotWriteAt path) h = h
fault_after reads directory before name after order each (Locked folder holder) h = h
fault_after reads directory before name after order each (CannotListen port) h = h
fault_after reads directory before name after order each NoListener h = h
fault_after reads directory before name after order each NoThread h = h
fault_after reads directory before name after order each (Words error) h = h
fault_after reads directory before name after order each (Refused refusal) h = h

-- what keeps a directory from being judged keeps its line from being written
pub unwritten : (reads : Host) (directory : List ℕ) (fault : Fault)
    → IsReadingFault reads directory fault → IsDirectoryFault reads directory fault
unwritten reads directory (CannotRead path) h = h
unwritten reads directory Memory h = h
unwritten reads directory CannotWrite h = absurd h
unwritten reads directory (CannotWriteAt path) h = h
unwritten reads directory (Locked folder holder) h = h
unwritten reads directory (CannotListen port) h = h
unwritten reads directory NoListener h = h
unwritten reads directory NoThread h = h
unwritten reads directory (Words error) h = h
unwritten reads directory (Refused refusal) h = h
