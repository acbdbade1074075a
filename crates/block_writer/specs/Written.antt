-- An index that is written, and files that are too long.
use Rattle.std.specs.Prelude.{◌≡◌, ℕ, ◌<◌, ◌⊎◌, List, length}
use Rattle.labels.specs.Labels.{text_cmp, pair_cmp}
use Rattle.labels.specs.Rows.{Row}
use Rattle.block_writer.specs.declared.error.WriteError.{WriteError}
use Rattle.block_writer.specs.declared.error.WriteError.TheVariants.{Memory, Limit}
use Rattle.block_writer.specs.InUse.{texts_in, pairs_in, HoldsEachOnce}
use Rattle.block_writer.specs.IndexText.{index_text}
use Rattle.block_writer.specs.Writing.{chunks_text}

-- the text of an index of these rows: its symbols are exactly the names and values in use, its
-- pairs exactly those in use, each once, ascending by their bytes
pub record IsWrittenIndex (rows : List Row) (text : List ℕ) : Type 0 where
  pub symbols : List (List ℕ)
  pub pairs : List (List ℕ × List ℕ)
  pub texts_held : HoldsEachOnce text_cmp (texts_in rows) symbols
  pub pairs_held : HoldsEachOnce pair_cmp (pairs_in rows) pairs
  pub spelled : text ≡ index_text symbols pairs rows

-- the greatest length of a file: 1 GiB
abbrev pub limit : ℕ
limit = 0x4000_0000

-- why this text was not written: it is too long, or there was no memory
abbrev pub IsReason : List ℕ → WriteError → Type 0
IsReason text Limit = limit < length text
IsReason text Memory = Unit {0}

-- a refusal of rows: a file of them would be too long
abbrev pub IsFileTooLong : List Row → WriteError → Type 0
IsFileTooLong rows Limit =
    (limit < length (chunks_text rows))
    ⊎ ((text : List ℕ) × IsWrittenIndex rows text × (limit < length text))
IsFileTooLong rows Memory = Unit {0}
