-- Decimals with a number of digits after the point.
use Rattle.std.specs.Prelude.{ℕ, zero, suc, ℤ, pos, negsuc, ◌+◌, ◌/◌, ◌%◌, ◌^◌, List, [], ◌∷◌, ◌++◌}
use Rattle.std.specs.Prelude.{decimal}

-- the digit of a number that counts 10^k
abbrev pub digit_at : ℕ → ℕ → ℕ
digit_at k n = 48 + n / 10 ^ k % 10

-- the last digits of a number, with zeros in front
unfoldable pub last_digits : ℕ → ℕ → List ℕ
last_digits zero n = []
last_digits (suc k) n = digit_at k n ∷ last_digits k n

-- a point and digits, nothing where there are none
abbrev pub fraction_of : ℕ → ℕ → List ℕ
fraction_of zero n = []
fraction_of (suc k) n = 46 ∷ last_digits (suc k) n

-- n / 10^places
unfoldable pub size_text : ℕ → ℕ → List ℕ
size_text places n = decimal (n / 10 ^ places) ++ fraction_of places n

-- the same with a sign
unfoldable pub number_text : ℕ → ℤ → List ℕ
number_text places (pos n) = size_text places n
number_text places (negsuc n) = 45 ∷ size_text places (suc n)
