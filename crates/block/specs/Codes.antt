-- How the refusals are numbered.
use Rattle.std.specs.Prelude.{ℕ, List, ◌++◌, codes}
use Rattle.index_reader.specs.Codes as index
use Rattle.chunk_reader.specs.Codes as chunk
use Rattle.tombstones.specs.Codes as tombstone
use Rattle.block.specs.declared.error.BlockError.{BlockError}
use Rattle.block.specs.declared.error.BlockError.TheVariants.{Memory, Meta, Index, Chunks}
use Rattle.block.specs.declared.error.BlockError.TheVariants.{Tombstones, UnknownSeries}
use Rattle.block.specs.declared.error.BlockError.TheVariants.{OutsideRange}

abbrev pub code_of : BlockError → List ℕ
code_of Memory = codes "memory"
code_of Meta = codes "B2"
code_of (Index e) = index.code_of e
code_of (Chunks e) = chunk.code_of e
code_of (Tombstones e) = tombstone.code_of e
code_of UnknownSeries = codes "T5"
code_of OutsideRange = codes "B1"

-- a refusal in a line, for people
abbrev pub text_of : BlockError → List ℕ
text_of Memory = codes "no memory"
text_of Meta = codes "B2: meta.json is not that of a block"
text_of (Index e) = index.text_of e
text_of (Chunks e) = chunk.text_of e
text_of (Tombstones e) = tombstone.code_of e ++ codes ": the file of deletions is not well formed"
text_of UnknownSeries = codes "T5: a deletion is of an unknown series"
text_of OutsideRange = codes "B1: a chunk is outside the block's times"
