-- Which file is the first that cannot be read.
use Rattle.std.proofs.Common.{◌≡◌, ℕ, List, ◌∷◌, ◌++◌}
use Rattle.std.specs.List.{AllByRecursion}
use Rattle.audit_command.specs.Reading.{Host, IsRead, IsFound, IsFileFault, IsReadingFault, reading_order}
use Rattle.audit_command.specs.declared.fault.Fault.{Fault}
use Rattle.audit_command.specs.declared.fault.Fault.TheVariants.{Words, Refused, CannotReadInput, BadReply, CannotRead, CannotWrite, Memory}
use Rattle.audit_command.specs.declared.files.FileName.{FileName}

-- a file that was read can be read
pub found : (reads : Host) (directory : List ℕ) (name : FileName) (bytes : List ℕ) → IsRead reads directory name bytes → IsFound reads directory name
found reads directory name bytes read = record { file = read.file; found = read.found }

-- the fault of a file, after those before it were read
pub fault_after : (reads : Host) (directory : List ℕ) (before : List FileName) (name : FileName) (after : List FileName) → reading_order ≡ before ++ name ∷ after
    → AllByRecursion (λ (earlier : FileName). IsFound reads directory earlier) before → (fault : Fault) → IsFileFault reads directory name fault → IsReadingFault reads directory fault
fault_after reads directory before name after order each (CannotRead path) h = record { before = before; name = name; after = after; order = order; each = each; at = h }
fault_after reads directory before name after order each Memory h = tt
fault_after reads directory before name after order each CannotWrite h = h
fault_after reads directory before name after order each (Words error) h = h
fault_after reads directory before name after order each (Refused refusal) h = h
fault_after reads directory before name after order each CannotReadInput h = h
fault_after reads directory before name after order each BadReply h = h
