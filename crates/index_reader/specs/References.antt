-- References of four bytes each.
use Rattle.std.specs.List.Sorted.{IsStrictlyIncreasing}
use Rattle.std.specs.Prelude.{◌≡◌, ℕ, List, [], ◌∷◌, length, ◌%◌, zero, suc, ◌/◌, drop}
use Rattle.byteorder.specs.Endian.{big_number}

-- this many numbers of four bytes
unfoldable pub words : ℕ → List ℕ → List ℕ
words zero bytes = []
words (suc n) bytes = big_number 4 bytes ∷ words n (drop 4 bytes)

-- as many numbers as the bytes have room for
abbrev pub references_in : List ℕ → List ℕ
references_in bytes = words (length bytes / 4) bytes

-- whole references, which ascend
abbrev pub IsList : List ℕ → Type 0
IsList bytes = (length bytes % 4 ≡ 0) × IsStrictlyIncreasing (references_in bytes)
