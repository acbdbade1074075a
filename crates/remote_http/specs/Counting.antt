-- Counts by code, as a program has them.
use Rattle.std.specs.Prelude.{ℕ, List}
use Rattle.std.specs.Borrow.{Bor}

-- a code and its count
abbrev pub count_seen : Bor (List ℕ) × ℕ → List ℕ × ℕ
count_seen pair = (pair.0.now, pair.1)
