-- Which pieces draw a box as that of a claim: an element of the class `say`.
use Rattle.std.specs.Prelude.{◌≡◌, ℕ, ◌==◌, ◌&&◌, ◌||◌, Bool, true, false, List, [], ◌∷◌}
use Rattle.std.specs.List.{list_any}
use Rattle.page_text.specs.declared.attribute.Attribute.{Attribute}
use Rattle.page_text.specs.declared.attribute.Attribute.TheVariants as attributes
use Rattle.page_text.specs.declared.piece.Piece.{Piece}
use Rattle.page_text.specs.declared.piece.Piece.TheVariants as pieces

-- a text begins with `say`
abbrev pub begins_say : List ℕ → Bool
begins_say (a ∷ b ∷ c ∷ rest) = a == 115 && (b == 97 && c == 121)
begins_say text = false

-- `say` stands in a text
abbrev pub has_say : List ℕ → Bool
has_say [] = false
has_say (b ∷ bs) = begins_say (b ∷ bs) || has_say bs

-- `say` stands in the constant of an attribute, of whatever key
abbrev pub names_box : Attribute → Bool
names_box (attributes.Word key word) = has_say word.now
names_box (attributes.Named key word n) = has_say word.now
names_box attribute = false

abbrev pub name_box : List Attribute → Bool
name_box attributes = list_any names_box attributes

-- a piece begins an element with such an attribute
abbrev pub draws_box : Piece → Bool
draws_box (pieces.Open tag attributes) = name_box attributes.items
draws_box (pieces.Leaf tag attributes) = name_box attributes.items
draws_box piece = false

abbrev pub has_box : List Piece → Bool
has_box pieces = list_any draws_box pieces

-- no piece does
abbrev pub HasNoBox : List Piece → Type 0
HasNoBox pieces = has_box pieces ≡ false
