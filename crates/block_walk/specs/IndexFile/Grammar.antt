-- The layout of an index, by the texts that stand in it.
use Rattle.std.specs.Prelude.{◌≡◌, ℕ, ◌+◌, ◌-◌, ◌≤◌, ◌<◌, List, [], ◌∷◌, ◌++◌, length, take, drop}
use Rattle.std.specs.Prelude.{slice_range, true}
use Rattle.std.specs.List.{flat_map, AllByRecursion}
use Rattle.std.specs.Str.{IsUtf8}
use Rattle.byteorder.specs.Endian.{big_bytes}
use Rattle.wire.specs.Spelling.{uvarint}
use Rattle.wire.specs.Checksum.{checked}
use Rattle.block_walk.specs.declared.contents.Contents.{Contents}
use Rattle.block_walk.specs.IndexFile.Layout.{IsPlaced, SeriesEntry, Layout, ascending, rounded}
use Rattle.block_walk.specs.IndexFile.Layout.{series_end}

-- four bytes of length, the content, its checksum
abbrev pub frame : List ℕ → List ℕ
frame content = big_bytes 4 (length content) ++ checked content

-- a series entry: the length of its body, the body, its checksum
abbrev pub entry : List ℕ → List ℕ
entry body = uvarint (length body) ++ checked body

-- the bytes from a place up to an end begin with this text
abbrev pub StandsAt : List ℕ → ℕ → ℕ → List ℕ → Type 0
StandsAt file at end text = (rest : List ℕ) × (slice_range file at end ≡ text ++ rest)

-- a text with its length before it
abbrev pub symbol : List ℕ → List ℕ
symbol s = uvarint (length s) ++ s

-- the content of a symbol table
pub record IsSymbolTable (content : List ℕ) (symbols : List (List ℕ)) : Type 0 where
  pub text : content ≡ big_bytes 4 (length symbols) ++ flat_map symbol symbols
  pub order : ascending symbols ≡ true
  pub texts : AllByRecursion IsUtf8 symbols

-- the six offsets, of eight bytes each
abbrev pub contents_text : Contents → List ℕ
contents_text t =
    big_bytes 8 t.symbols ++ (big_bytes 8 t.series
    ++ (big_bytes 8 t.label_indices ++ (big_bytes 8 t.label_offsets
    ++ (big_bytes 8 t.postings ++ big_bytes 8 t.postings_offsets))))

-- From this place up to the end there are these entries, each at the next multiple of 16.
abbrev pub IsWalk : List ℕ → ℕ → ℕ → List SeriesEntry → Type 0
IsWalk file end at [] = end ≤ at
IsWalk file end at (p ∷ ps) = (p.offset ≡ at) × (at < end) × StandsAt file at end (entry p.body)
    × IsWalk file end (rounded (at + length (entry p.body))) ps
    × (p.end ≡ at + length (entry p.body))

-- the file is an index with these parts
pub record IsLayout (file : List ℕ) (x : Layout) : Type 0 where
  pub start : take 5 file ≡ 0xBA ∷ 0xAA ∷ 0xD7 ∷ 0 ∷ 2 ∷ []
  pub contents : drop (length file - 52) file ≡ checked (contents_text x.contents)
  pub placed : IsPlaced x.contents (length file)
  pub symbols : (content : List ℕ) × StandsAt file 5 x.contents.series (frame content)
      × IsSymbolTable content x.symbols × (x.symbols_end ≡ 5 + length (frame content))
  pub entries : IsWalk file (series_end x.contents) (rounded x.contents.series) x.entries
