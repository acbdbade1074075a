-- The checks of the symbol table.
use Rattle.std.specs.Prelude.{ℕ, List, [], ◌∷◌, length, Result, Ok, Err, ◌&&◌, ◌==◌, if◌then◌else◌}
use Rattle.std.specs.Prelude.{zero, suc}
use Rattle.std.specs.Str.{is_utf8}
use Rattle.wire.specs.Reading.{number_at, bytes_at, uvarint_at}
use Rattle.index_reader.specs.declared.error.IndexError.{IndexError}
use Rattle.index_reader.specs.declared.error.IndexError.TheVariants.{Symbols}
use Rattle.index_reader.specs.Layout.{ascending}
use Rattle.wire.specs.Outcome.{◌>>=◌, or_refused}

-- a text with its length before it
unfoldable pub symbol_at : List ℕ → Result (List ℕ × List ℕ) IndexError
symbol_at bytes = do
  len ← or_refused Symbols (uvarint_at bytes)
  text ← or_refused Symbols (bytes_at len.0 len.1)
  if is_utf8 text.0 then Ok text else Err Symbols

-- this many texts
unfoldable pub symbols_from : ℕ → List ℕ → Result (List (List ℕ) × List ℕ) IndexError
symbols_from zero bytes = Ok ([], bytes)
symbols_from (suc n) bytes = do
  first ← symbol_at bytes
  others ← symbols_from n first.1
  Ok (first.0 ∷ others.0, others.1)

-- the content of the symbol table
unfoldable pub symbols_of : List ℕ → Result (List (List ℕ)) IndexError
symbols_of content = do
  n ← or_refused Symbols (number_at 4 content)
  found ← symbols_from n.0 n.1
  if length found.1 == 0 && ascending found.0 then Ok found.0 else Err Symbols
