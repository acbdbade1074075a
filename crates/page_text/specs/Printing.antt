-- The print of a page: of each piece in turn.
use Rattle.std.specs.Prelude.{ℕ, ◌-◌, ◌/◌, ◌%◌, ◌==◌, ◌&&◌, nat_lt, List, [], ◌∷◌, ◌++◌, length}
use Rattle.std.specs.Prelude.{codes, decimal, if◌then◌else◌}
use Rattle.std.specs.Fmt.{signed_decimal}
use Rattle.std.specs.List.{flat_map}
use Rattle.page_escape.specs.Escaping.{word_text, leaf_text}
use Rattle.page_text.specs.declared.attribute.Attribute.{Attribute}
use Rattle.page_text.specs.declared.attribute.Attribute.TheVariants as attributes
use Rattle.page_text.specs.declared.attribute.Move.{Move}
use Rattle.page_text.specs.declared.attribute.Move.TheVariants as moves
use Rattle.page_text.specs.declared.attribute.Key.TheVariants as keys
use Rattle.page_text.specs.declared.mark.Mark.{Mark}
use Rattle.page_text.specs.declared.mark.Mark.TheVariants as marks
use Rattle.page_text.specs.declared.piece.Piece.{Piece}
use Rattle.page_text.specs.declared.piece.Piece.TheVariants as pieces
use Rattle.page_text.specs.declared.tag.Tag.{Tag}
use Rattle.page_text.specs.Markup.{tag_name, key_name}

-- what stands behind a digit before so many others
abbrev pub comma_before : ℕ → List ℕ
comma_before later = if nat_lt 0 later && later % 3 == 0 then 44 ∷ [] else []

-- digits, with a comma before each three of them but the first
abbrev pub with_commas : List ℕ → List ℕ
with_commas [] = []
with_commas (d ∷ ds) = (d ∷ comma_before (length ds)) ++ with_commas ds

-- a number with commas
abbrev pub counted : ℕ → List ℕ
counted n = with_commas (decimal n)

-- a point and the last two digits
unfoldable pub hundredths : ℕ → List ℕ
hundredths n = codes "." ++ decimal (n % 100 / 10) ++ decimal (n % 10)

-- hundredths of a percent
unfoldable pub share_text : ℕ → List ℕ
share_text n =
    decimal (n / 100) ++ (if n % 100 == 0 then [] else hundredths n) ++ codes "%"

unfoldable pub place_text : ℕ → ℕ → ℕ → List ℕ
place_text letter x y = letter ∷ decimal x ++ codes " " ++ decimal y

-- a move of a path
abbrev pub move_text : Move → List ℕ
move_text (moves.To x y) = place_text 77 x y
move_text (moves.Line x y) = place_text 76 x y
move_text (moves.Across x) = 72 ∷ decimal x
move_text (moves.Down y) = 86 ∷ decimal y
move_text moves.Dot = codes "h0"
move_text moves.Back = codes "z"

-- a name and what begins its value
unfoldable pub value_front : List ℕ → List ℕ
value_front name = codes " " ++ name ++ codes "=\""

-- an attribute, up to its last quote
unfoldable pub open_attribute : Attribute → List ℕ
open_attribute (attributes.Word key word) = value_front (key_name key) ++ word_text word.now
open_attribute (attributes.Number key n) = value_front (key_name key) ++ decimal n
open_attribute (attributes.Named key word n) =
    value_front (key_name key) ++ word_text word.now ++ decimal n
open_attribute (attributes.Share key n) = value_front (key_name key) ++ share_text n
open_attribute (attributes.Path steps) =
    value_front (key_name keys.D) ++ flat_map move_text steps.items

unfoldable pub attribute_text : Attribute → List ℕ
attribute_text attribute = open_attribute attribute ++ codes "\""

-- the name and the attributes of an element
unfoldable pub head_text : Tag → List Attribute → List ℕ → List ℕ
head_text tag attributes end =
    codes "<" ++ tag_name tag ++ flat_map attribute_text attributes ++ end

unfoldable pub close_text : Tag → List ℕ
close_text tag = codes "</" ++ tag_name tag ++ codes ">"

-- the class of what a verdict fills: match, an unknown matcher, no sample, else a matcher
unfoldable pub fill_text : ℕ → List ℕ
fill_text slot =
    if slot == 0 then codes "c vm"
    else if slot == 17 then codes "c gap"
    else if slot == 18 then codes "c vn"
    else codes "c v" ++ decimal (slot - 1)

unfoldable pub tile_front : ℕ → List ℕ
tile_front slot = codes "<rect class=\"" ++ fill_text slot

unfoldable pub tile_place : ℕ → ℕ → List ℕ
tile_place x y = codes "\" x=\"" ++ share_text x ++ codes "\" y=\"" ++ decimal y

unfoldable pub tile_size : ℕ → ℕ → List ℕ
tile_size width height =
    codes "\" width=\"" ++ share_text width ++ codes "\" height=\"" ++ decimal height

-- a rectangle with the fill of a verdict, where it stands, and how wide and high it is
unfoldable pub tile_text : ℕ → ℕ → ℕ → ℕ → ℕ → List ℕ
tile_text slot x y width height =
    tile_front slot ++ tile_place x y ++ tile_size width height ++ codes "\"/>"

abbrev pub mark_text : Mark → List ℕ
mark_text (marks.Count subject n) = counted n
mark_text (marks.Tile slot x y width height) = tile_text slot x y width height

unfoldable pub piece_text : Piece → List ℕ
piece_text (pieces.Open tag attributes) = head_text tag attributes.items (codes ">")
piece_text (pieces.Leaf tag attributes) = head_text tag attributes.items (codes "/>")
piece_text (pieces.Close tag) = close_text tag
piece_text (pieces.Word word) = word_text word.now
piece_text (pieces.Text chars) = leaf_text chars.items
piece_text (pieces.Number n) = decimal n
piece_text (pieces.Integer n) = signed_decimal n
piece_text (pieces.Counted n) = counted n
piece_text (pieces.Mark mark) = mark_text mark
piece_text (pieces.Value shown) = shown.text.items
piece_text pieces.Line = codes "\n"

-- the print of a page
abbrev pub page_text : List Piece → List ℕ
page_text pieces = flat_map piece_text pieces
