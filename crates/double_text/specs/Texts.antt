-- The doubles that texts write.
use Rattle.std.specs.Prelude.{◌≡◌, ℕ, ◌%◌, ◌^◌, nat_lt, Bool, true, false, List, codes, Option}
use Rattle.std.specs.Prelude.{Some, option_map, is_nan, to_bits, if◌then◌else◌}
use Rattle.std.specs.Float.{Float, binary64}
use Rattle.fast_float.specs.Parse.{parse_float}

-- the NaN that Prometheus has for one that it reads: a text tells no payload
abbrev pub read_nan : ℕ
read_nan = 0x7ff8_0000_0000_0001

-- the bits of a double
abbrev pub bits_of : Float → ℕ
bits_of x = if is_nan x then read_nan else to_bits binary64 x

-- the bits of the double nearest to the number that a text writes, if it writes one
abbrev pub double_at : List ℕ → Option ℕ
double_at text = option_map bits_of (parse_float binary64 text)

-- whether these are the bits of a NaN: above those of an infinity, whichever the sign
abbrev pub is_nan_bits : ℕ → Bool
is_nan_bits bits = nat_lt 0x7ff0_0000_0000_0000 (bits % 2 ^ 63)

-- the text of the double with these bits is read as this double; a NaN has one text
pub record IsTextOf (bits : ℕ) (text : List ℕ) : Type 0 where
  pub nan : is_nan_bits bits ≡ true → text ≡ codes "NaN"
  pub other : is_nan_bits bits ≡ false → double_at text ≡ Some bits
