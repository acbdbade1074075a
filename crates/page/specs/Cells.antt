-- How numbers of the reply stand in a page: in decimal.
use Rattle.std.specs.Prelude.{◌≡◌, ℕ, List, ◌++◌, codes, decimal}
use Rattle.page_escape.specs.Escaping.{word_text}
use Rattle.page_text.specs.declared.attribute.Key.TheVariants as keys
use Rattle.page_text.specs.declared.tag.Tag.{Tag}
use Rattle.page_text.specs.declared.tag.Tag.TheVariants as tags
use Rattle.page_text.specs.Markup.{tag_name, key_name}
use Rattle.page_text.specs.Printing.{value_front, close_text, counted}
use Rattle.page_text.specs.Values.{IsValueText}
use Rattle.page_text.specs.declared.value.Value.{Value}

-- what begins an element of a class
unfoldable pub class_front : Tag → List ℕ → List ℕ
class_front tag class =
    codes "<" ++ tag_name tag ++ value_front (key_name keys.Class) ++ word_text class
    ++ codes "\"" ++ codes ">"

-- what begins a cell of a class that is labelled where the table has no head
unfoldable pub labelled_front : List ℕ → List ℕ → List ℕ
labelled_front class label =
    codes "<" ++ tag_name tags.Td ++ value_front (key_name keys.Class) ++ word_text class
    ++ codes "\"" ++ value_front (key_name keys.DataLabel) ++ word_text label
    ++ codes "\"" ++ codes ">"

-- a cell with a number of the reply
unfoldable pub number_text : ℕ → List ℕ
number_text n = class_front tags.Td (codes "n") ++ decimal n ++ close_text tags.Td

-- a cell with a number that was counted
unfoldable pub counted_text : ℕ → List ℕ
counted_text n = class_front tags.Td (codes "n") ++ counted n ++ close_text tags.Td

-- a cell with the text of a value of the reply
unfoldable pub value_text : List ℕ → List ℕ → List ℕ
value_text label text = labelled_front (codes "n") label ++ text ++ close_text tags.Td

-- a cell was printed with a value: as a whole number, or as the double for which it is kept
pub record IsValueCell (label : List ℕ) (value : Value) (old new : List ℕ) : Type 0 where
  pub text : List ℕ
  pub is_text : ∥ IsValueText value text ∥₁
  pub printed : new ≡ old ++ value_text label text

-- an interval, as `[2, 4)`
unfoldable pub bounds_text : ℕ → ℕ → List ℕ
bounds_text from until =
    word_text (codes "[") ++ decimal from ++ word_text (codes ", ") ++ decimal until
    ++ word_text (codes ")")
