-- What a tree tells of itself, and the values of samples that it shows.
use Rattle.std.specs.Prelude.{List, [], ◌∷◌}
use Rattle.std.specs.List.{flat_map}
use Rattle.page_text.specs.declared.mark.Mark.{Mark}
use Rattle.page_text.specs.declared.piece.Piece.{Piece}
use Rattle.page_text.specs.declared.piece.Piece.TheVariants as pieces
use Rattle.page_text.specs.declared.value.Value.{Value}

-- the mark that a piece is, if it is one
abbrev pub mark_in : Piece → List Mark
mark_in (pieces.Mark mark) = mark ∷ []
mark_in piece = []

-- the marks of pieces, in their order
abbrev pub marks_in : List Piece → List Mark
marks_in pieces = flat_map mark_in pieces

-- the value that a piece is, if it is one
abbrev pub value_in : Piece → List Value
value_in (pieces.Value shown) = shown.value ∷ []
value_in piece = []

-- the values of pieces, in their order
abbrev pub values_in : List Piece → List Value
values_in pieces = flat_map value_in pieces
