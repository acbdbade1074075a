-- What pieces show of a selector.
use Rattle.std.specs.Prelude.{◌≡◌, ℕ, List, [], take}
use Rattle.std.specs.List.{flat_map}
use Rattle.std.specs.Str.{chars}
use Rattle.page_text.specs.declared.piece.Piece.{Piece}
use Rattle.page_text.specs.declared.piece.Piece.TheVariants as pieces

-- the characters of a piece, if it is a text from outside
abbrev pub chars_in : Piece → List ℕ
chars_in (pieces.Text text) = text.items
chars_in piece = []

-- the characters of all texts from outside, in their order
abbrev pub chars_of : List Piece → List ℕ
chars_of pieces = flat_map chars_in pieces

-- they are the first characters of a text, so many at most
abbrev pub ShowsFirst : ℕ → List ℕ → List Piece → Type 0
ShowsFirst most text pieces = chars_of pieces ≡ take most (chars text)
