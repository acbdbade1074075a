-- The one spelling of each number.
use Rattle.std.specs.Prelude.{◌≡◌, ℕ, zero, suc, ◌+◌, ◌*◌, ◌/◌, ◌%◌, List, [], ◌∷◌, ◌++◌, ◌<◌}
use Rattle.std.specs.Prelude.{get_or, nat_lt, if◌then◌else◌, ℤ, pos, negsuc}

-- numbers that a byte can hold
abbrev pub IsBytes : List ℕ → Type 0
IsBytes bytes = (i : ℕ) → get_or bytes i 0 < 256

-- at most k bytes: seven bits each, the lowest first, with the high bit set on all but the last
unfoldable pub groups : ℕ → ℕ → List ℕ
groups zero n = []
groups (suc k) n = if nat_lt n 128 then n ∷ [] else (n % 128 + 128) ∷ groups k (n / 128)

unfoldable pub uvarint : ℕ → List ℕ
uvarint n = groups 10 n

-- 0, -1, 1, -2 are 0, 1, 2, 3
abbrev pub zigzag : ℤ → ℕ
zigzag (pos n) = n * 2
zigzag (negsuc n) = n * 2 + 1

unfoldable pub varint : ℤ → List ℕ
varint z = uvarint (zigzag z)

-- Where this value's spelling stands in front, no other's does: the bytes say which value it is
-- and where it ends.
abbrev pub BeginsNoOther : {A : Type 0} → (A → Type 0) → (A → List ℕ) → A → Type 0
BeginsNoOther {A} fits spelled a =
    (b : A) (x y : List ℕ) → fits b → spelled a ++ x ≡ spelled b ++ y → (a ≡ b) × (x ≡ y)
