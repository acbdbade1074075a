-- What a tree has grown to: its print, and the elements that are open, the innermost first.
use Rattle.std.specs.Prelude.{ℕ, List, [], ◌∷◌, reverse}
use Rattle.page_text.specs.declared.tree.Tree.{Tree}
use Rattle.page_text.specs.declared.tag.Tag.{Tag}
use Rattle.page_text.specs.Printing.{page_text, close_text}

unfoldable pub printed : Tree → List ℕ
printed tree = page_text tree.pieces.items

unfoldable pub open_tags : Tree → List Tag
open_tags tree = reverse tree.begun.items

-- what ends the innermost element that is open; nothing if none is
abbrev pub ending : List Tag → List ℕ
ending [] = []
ending (tag ∷ tags) = close_text tag

-- the elements that are open then
abbrev pub outer : List Tag → List Tag
outer [] = []
outer (tag ∷ tags) = tags
