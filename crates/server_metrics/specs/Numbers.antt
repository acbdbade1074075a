-- Times as texts.
use Rattle.std.specs.Prelude.{ℕ, suc, ℤ, pos, negsuc, ◌/◌, ◌%◌, List, ◌∷◌, ◌++◌, decimal}

-- the first three digits of a part of a second
unfoldable pub millis_text : ℕ → List ℕ
millis_text n = decimal (n / 100000 % 10) ++ decimal (n / 10000 % 10) ++ decimal (n / 1000 % 10)

-- the last three of its six digits
unfoldable pub micros_text : ℕ → List ℕ
micros_text n = decimal (n / 100 % 10) ++ decimal (n / 10 % 10) ++ decimal (n % 10)

-- a point, and the part of a second with six digits
unfoldable pub fraction_text : ℕ → List ℕ
fraction_text n = 46 ∷ millis_text n ++ micros_text n

-- microseconds as seconds, with six digits behind the point
unfoldable pub seconds_text : ℕ → List ℕ
seconds_text n = decimal (n / 1000000) ++ fraction_text n

-- a number with a sign
unfoldable pub signed_text : ℤ → List ℕ
signed_text (pos n) = decimal n
signed_text (negsuc n) = 45 ∷ decimal (suc n)
