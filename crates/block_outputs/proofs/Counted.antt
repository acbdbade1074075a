-- How many samples rows have.
use Rattle.std.specs.Prelude.{◌≡◌, ℕ, ◌+◌, ◌<◌, ℤ, List, [], ◌∷◌, ◌++◌, length, take, get_or, refl}
use Rattle.std.proofs.Common.{sym, ap, ◌∙◌, arith}
use Rattle.std.proofs.lemmas.Grind.{take_at_read}
use Rattle.labels.specs.Rows.{Row}
use Rattle.block_outputs.specs.Writing.{samples_in}

samples_in-last : (rows : List Row) (row : Row)
    → samples_in (rows ++ row ∷ []) ≡ samples_in rows + length row.1
samples_in-last [] row = omega arith
samples_in-last (r ∷ rows) row = let rest = samples_in-last rows row in omega (arith, rest)

-- of one row more
pub samples_in-take : (rows : List Row) (n : ℕ) (row : Row) → n < length rows
    → row ≡ get_or rows n row
    → samples_in (take (n + 1) rows) ≡ samples_in (take n rows) + length row.1
samples_in-take rows n row lt at =
    ap samples_in
    ((take_at_read rows n row lt).1 ∙ ap (λ (x : Row). take n rows ++ x ∷ []) (sym at))
    ∙ samples_in-last (take n rows) row
