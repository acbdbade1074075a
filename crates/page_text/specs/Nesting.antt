-- Which pieces are a tree: each element that is opened is closed, the last opened first.
use Rattle.std.specs.Prelude.{◌≡◌, ◌≤◌, List, [], ◌∷◌, Option, Some, None, if◌then◌else◌}
use Rattle.std.specs.Prelude.{length}
use Rattle.std.specs.List.{fold}
use Rattle.std.specs.Str.{bytes_eq}
use Rattle.page_text.specs.declared.piece.Piece.{Piece}
use Rattle.page_text.specs.declared.piece.Piece.TheVariants as pieces
use Rattle.page_text.specs.declared.tag.Tag.{Tag}
use Rattle.page_text.specs.Markup.{tag_name}

-- which elements are open after another piece, the innermost first; nothing if it closes another
-- element than the innermost
abbrev pub closed_by : Tag → List Tag → Option (List Tag)
closed_by tag [] = None
closed_by tag (inner ∷ outer) =
    if bytes_eq (tag_name inner) (tag_name tag) then Some outer else None

abbrev pub open_after : Option (List Tag) → Piece → Option (List Tag)
open_after None piece = None
open_after (Some open_tags) (pieces.Open tag attributes) = Some (tag ∷ open_tags)
open_after (Some open_tags) (pieces.Close tag) = closed_by tag open_tags
open_after (Some open_tags) (pieces.Leaf tag attributes) = Some open_tags
open_after (Some open_tags) (pieces.Word word) = Some open_tags
open_after (Some open_tags) (pieces.Text chars) = Some open_tags
open_after (Some open_tags) (pieces.Number n) = Some open_tags
open_after (Some open_tags) (pieces.Integer n) = Some open_tags
open_after (Some open_tags) (pieces.Counted n) = Some open_tags
open_after (Some open_tags) (pieces.Mark mark) = Some open_tags
open_after (Some open_tags) (pieces.Value shown) = Some open_tags
open_after (Some open_tags) pieces.Line = Some open_tags

-- the piece begins no element and ends none
abbrev pub KeepsOpen : Piece → Type 0
KeepsOpen piece = (tags : List Tag) → open_after (Some tags) piece ≡ Some tags

-- the elements that pieces leave open
abbrev pub left_open : List Piece → Option (List Tag)
left_open pieces = fold open_after (Some []) pieces

-- whether pieces are a tree
abbrev pub IsTree : List Piece → Type 0
IsTree pieces = left_open pieces ≡ Some []

-- a tree of no more pieces than a tree may have
pub record IsContent (pieces : List Piece) : Type 0 where
  pub tree : IsTree pieces
  pub few : length pieces ≤ 4000000
