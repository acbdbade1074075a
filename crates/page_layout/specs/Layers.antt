-- Layers of a column.
use Rattle.std.specs.Prelude.{ℕ, ◌+◌, ◌*◌, ◌/◌}

-- how high so many layers with so many things are
abbrev pub top : ℕ → ℕ → ℕ → ℕ → ℕ
top layers things total room = layers + things * room / total
