-- What is known of the first bytes of files is known of all their bytes.
use Rattle.std.proofs.Common.{◌≡◌, List, ℕ, subst}
use Rattle.block_walk.specs.BlockFiles.Checks.{Files}
use Rattle.block_walk.proofs.LongFiles.{first_of, refused_of_first, walked_of_first}
use Rattle.auditor.specs.declared.judgement.BlockTable.{BlockTable}
use Rattle.auditor.specs.declared.judgement.BlockTable.TheVariants.{Walked, Refused}
use Rattle.audit_command.specs.Reading.{Host, AreRead, AreFilesAt}
use Rattle.audit_command.specs.Walking.{bytes_of, IsTableOf}
use Rattle.audit_command.specs.declared.files.BlockFiles.{BlockFiles}

known_alike : (whole : Files) (table : BlockTable) → IsTableOf (first_of whole) table
    → IsTableOf whole table
known_alike whole (Walked part) w = walked_of_first whole part w
known_alike whole (Refused code) r = record {
  error = r.error;
  no_memory = r.no_memory;
  refused = refused_of_first whole r.error r.refused;
  is = r.is;
}

-- ---- the files of a directory

pub whole_of : (reads : Host) (directory : List ℕ) (files : BlockFiles)
    → AreRead reads directory files → Files
whole_of reads directory files read = record {
  index = read.index.file;
  chunks = read.chunks.file;
  tombstones = read.tombstones.file;
}

pub whole_found : (reads : Host) (directory : List ℕ) (files : BlockFiles)
    (read : AreRead reads directory files)
    → AreFilesAt reads directory (whole_of reads directory files read)
unfolding whole_of
whole_found reads directory files read = record {
  index = read.index.found;
  chunks = read.chunks.found;
  tombstones = read.tombstones.found;
}

first_read : (reads : Host) (directory : List ℕ) (files : BlockFiles)
    (read : AreRead reads directory files)
    → bytes_of files ≡ first_of (whole_of reads directory files read)
unfolding whole_of
first_read reads directory files read = λ i. record {
  index = read.index.first i;
  chunks = read.chunks.first i;
  tombstones = read.tombstones.first i;
}

pub whole_known : (reads : Host) (directory : List ℕ) (files : BlockFiles)
    (read : AreRead reads directory files) (table : BlockTable)
    → IsTableOf (bytes_of files) table → IsTableOf (whole_of reads directory files read) table
whole_known reads directory files read table known =
    known_alike (whole_of reads directory files read) table
    (subst (λ (f : Files). IsTableOf f table) (first_read reads directory files read) known)
