-- Reading from the front: the value and the bytes after it, or the first fault.
use Rattle.std.specs.Prelude.{ℕ, suc, ◌+◌, ◌-◌, ◌*◌, ◌/◌, ◌%◌, List, [], ◌∷◌, length, take, drop}
use Rattle.std.specs.Prelude.{Result, Ok, Err, nat_lt, ◌==◌, ◌&&◌, if◌then◌else◌, ℤ, pos, negsuc}
use Rattle.byteorder.specs.Endian.{big_number}
use Rattle.wire.specs.declared.error.WireError.{WireError}
use Rattle.wire.specs.declared.error.WireError.TheVariants.{Short, LongForm, TooBig}

-- the first byte
abbrev pub byte_at : List ℕ → Result (ℕ × List ℕ) WireError
byte_at [] = Err Short
byte_at (b ∷ rest) = Ok (b, rest)

-- the first n bytes, as a number or as they stand
abbrev pub number_at : ℕ → List ℕ → Result (ℕ × List ℕ) WireError
number_at n bytes =
    if nat_lt (length bytes) n then Err Short else Ok (big_number n bytes, drop n bytes)

abbrev pub bytes_at : ℕ → List ℕ → Result (List ℕ × List ℕ) WireError
bytes_at n bytes = if nat_lt (length bytes) n then Err Short else Ok (take n bytes, drop n bytes)

-- seven bits below a number that is read after them
abbrev pub below : ℕ → Result (ℕ × List ℕ) WireError → Result (ℕ × List ℕ) WireError
below low (Ok x) = Ok (low + 128 * x.0, x.1)
below low (Err e) = Err e

-- the number of which this many bytes stand before
unfoldable pub groups_at : ℕ → List ℕ → Result (ℕ × List ℕ) WireError
groups_at before [] = Err Short
groups_at before (b ∷ rest) =
    if before == 9 && nat_lt 1 b then Err TooBig
    else if nat_lt b 128 then (if b == 0 && nat_lt 0 before then Err LongForm else Ok (b, rest))
    else below (b - 128) (groups_at (suc before) rest)

unfoldable pub uvarint_at : List ℕ → Result (ℕ × List ℕ) WireError
uvarint_at bytes = groups_at 0 bytes

abbrev pub unzigzag : ℕ → ℤ
unzigzag n = if n % 2 == 0 then pos (n / 2) else negsuc (n / 2)

abbrev pub signed : Result (ℕ × List ℕ) WireError → Result (ℤ × List ℕ) WireError
signed (Ok x) = Ok (unzigzag x.0, x.1)
signed (Err e) = Err e

unfoldable pub varint_at : List ℕ → Result (ℤ × List ℕ) WireError
varint_at bytes = signed (uvarint_at bytes)
