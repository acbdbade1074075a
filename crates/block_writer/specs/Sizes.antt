-- How long a chunk is.
use Rattle.std.specs.Prelude.{ℕ, ◌+◌, ◌*◌, nat_lt, if◌then◌else◌}

-- the length of a chunk of so many samples, no more than 120: from 8 on the length of the data is
-- spelled in two bytes
abbrev pub chunk_size : ℕ → ℕ
chunk_size n = if nat_lt n 8 then 8 + 16 * n else 9 + 16 * n
