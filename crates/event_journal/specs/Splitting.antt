-- The content of the record in front, whose checksums are not looked at, and the bytes after it.
use Rattle.std.specs.Prelude.{ℕ, List, Result, Ok}
use Rattle.wire.specs.Outcome.{◌>>=◌}
use Rattle.wire.specs.Reading.{bytes_at, number_at}
use Rattle.wire.specs.declared.error.WireError.{WireError}

unfoldable pub split_at : List ℕ → Result (List ℕ × List ℕ) WireError
split_at bytes = do
  len ← number_at 4 bytes
  sum ← number_at 4 len.1
  content ← bytes_at len.0 sum.1
  last ← number_at 4 content.1
  Ok (content.0, last.1)
