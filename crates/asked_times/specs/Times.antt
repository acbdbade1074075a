-- The times that are asked for, cut to those of the store.
use Rattle.std.specs.Prelude.{ℤ, pos, negsuc, int_lt, if◌then◌else◌}

-- the first time that is asked for, from -2^62 on
abbrev pub first_time : ℤ → ℤ
first_time start =
    if int_lt start (negsuc 4611686018427387903) then negsuc 4611686018427387903 else start

-- the last time that is asked for, up to 2^62 - 1
abbrev pub last_time : ℤ → ℤ
last_time end = if int_lt (pos 4611686018427387903) end then pos 4611686018427387903 else end
