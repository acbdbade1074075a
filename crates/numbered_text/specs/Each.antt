-- Items one after another, each of which stands for a text by what the items before it left: a
-- state.
use Rattle.std.specs.Prelude.{ℕ, zero, suc, List, [], ◌++◌, Result, Ok}
use Rattle.wire.specs.Outcome.{◌>>=◌, or_refused}
use Rattle.wire.specs.Reading.{uvarint_at}
use Rattle.wire.specs.Spelling.{uvarint}
use Rattle.numbered_text.specs.declared.error.NumberError.{NumberError}
use Rattle.numbered_text.specs.declared.error.NumberError.TheVariants.{Field}

-- what is read by a state: the text that it stands for, the state after it, and the bytes that are
-- left
abbrev pub Read : Type 0 → Type 0
Read S = Result ((List ℕ × S) × List ℕ) NumberError

abbrev pub Reader : Type 0 → Type 0
Reader S = S → List ℕ → Read S

-- so many items: their texts one after another
unfoldable pub each_at : {S : Type 0} → Reader S → ℕ → Reader S
each_at at zero s bytes = Ok (([], s), bytes)
each_at at (suc n) s bytes = do
  x ← at s bytes
  xs ← each_at at n x.0.1 x.1
  Ok ((x.0.0 ++ xs.0.0, xs.0.1), xs.1)

-- how many, and then the items
unfoldable pub many_at : {S : Type 0} → Reader S → Reader S
many_at at s bytes = do
  n ← or_refused Field (uvarint_at bytes)
  xs ← each_at at n.0 s n.1
  Ok ((uvarint n.0 ++ xs.0.0, xs.0.1), xs.1)

-- a text in front of what is read
abbrev pub with_front : {S : Type 0} → List ℕ → Read S → Read S
with_front front read = read >>= λ x. Ok ((front ++ x.0.0, x.0.1), x.1)
