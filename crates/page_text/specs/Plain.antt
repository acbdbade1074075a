-- The texts of a page alone.
use Rattle.std.specs.Prelude.{ℕ, List, [], ◌++◌, codes, decimal, if◌then◌else◌}
use Rattle.std.specs.Char.{encode_utf8}
use Rattle.std.specs.Fmt.{signed_decimal}
use Rattle.std.specs.List.{flat_map}
use Rattle.page_escape.specs.Escaping.{is_invisible, high_digits, low_digits}
use Rattle.page_text.specs.declared.mark.Mark.{Mark}
use Rattle.page_text.specs.declared.mark.Mark.TheVariants as marks
use Rattle.page_text.specs.declared.piece.Piece.{Piece}
use Rattle.page_text.specs.declared.piece.Piece.TheVariants as pieces
use Rattle.page_text.specs.Printing.{counted}

unfoldable pub code_front : List ℕ
code_front = codes "<U+"

unfoldable pub code_end : List ℕ
code_end = codes ">"

-- the code of a character that cannot be seen
unfoldable pub code_text : ℕ → List ℕ
code_text c = code_front ++ high_digits c ++ low_digits c ++ code_end

-- a character, or its code if it cannot be seen
unfoldable pub seen_char : ℕ → List ℕ
seen_char c = if is_invisible c then code_text c else encode_utf8 c

abbrev pub plain_mark : Mark → List ℕ
plain_mark (marks.Count subject n) = counted n
plain_mark (marks.Tile slot x y width height) = []

unfoldable pub plain_piece : Piece → List ℕ
plain_piece (pieces.Open tag attributes) = []
plain_piece (pieces.Leaf tag attributes) = []
plain_piece (pieces.Close tag) = []
plain_piece (pieces.Word word) = word.now
plain_piece (pieces.Text chars) = flat_map seen_char chars.items
plain_piece (pieces.Number n) = decimal n
plain_piece (pieces.Integer n) = signed_decimal n
plain_piece (pieces.Counted n) = counted n
plain_piece (pieces.Mark mark) = plain_mark mark
plain_piece (pieces.Value shown) = shown.text.items
plain_piece pieces.Line = codes "\n"

abbrev pub plain_text : List Piece → List ℕ
plain_text pieces = flat_map plain_piece pieces
