-- How the refusals are numbered.
use Rattle.std.specs.Prelude.{ℕ, List, codes}
use Rattle.chunk_reader.specs.declared.error.ChunkError.{ChunkError}
use Rattle.chunk_reader.specs.declared.error.ChunkError.TheVariants.{Memory, Magic, Version}
use Rattle.chunk_reader.specs.declared.error.ChunkError.TheVariants.{Reference, Crc, XorEncoding}
use Rattle.chunk_reader.specs.declared.error.ChunkError.TheVariants.{OtherEncoding, Shape}
use Rattle.chunk_reader.specs.declared.error.ChunkError.TheVariants.{TimesDisagree}

abbrev pub code_of : ChunkError → List ℕ
code_of Memory = codes "memory"
code_of Magic = codes "C1"
code_of Version = codes "C2"
code_of Reference = codes "C3"
code_of Crc = codes "C4"
code_of XorEncoding = codes "C5"
code_of OtherEncoding = codes "C6"
code_of Shape = codes "C7"
code_of TimesDisagree = codes "C8"

-- a refusal in a line, for people
abbrev pub text_of : ChunkError → List ℕ
text_of Memory = codes "no memory"
text_of Magic = codes "C1: the chunks file does not begin with 85 BD 40 DD"
text_of Version = codes "C2: the version of the chunks file is not 1"
text_of Reference = codes "C3: a chunk is said to stand outside the chunks file"
text_of Crc = codes "C4: a chunk is cut short, or its checksum is wrong"
text_of XorEncoding = codes "C5: a chunk has the XOR encoding, which is not read"
text_of OtherEncoding = codes "C6: a chunk has an unknown encoding"
text_of Shape = codes "C7: a chunk is not well formed, or the chunks file is longer than 1 GiB"
text_of TimesDisagree = codes "C8: a chunk has other times than the index says"
