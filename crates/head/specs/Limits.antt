-- The limits of a head.
use Rattle.std.specs.Prelude.{ℕ}

-- how many series there may be
abbrev pub max_series : ℕ
max_series = 1048576

-- how many samples one of them may have
abbrev pub max_samples : ℕ
max_samples = 1048576
