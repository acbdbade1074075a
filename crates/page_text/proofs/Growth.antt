-- What a piece at the end does to the print of a tree, and to the elements that are open.
use Rattle.std.proofs.Common.{◌≡◌, List, [], ◌∷◌, ◌++◌, reverse, refl, ap, ◌∙◌}
use Rattle.std.proofs.lemmas.Grind.{flat_map-append}
use Rattle.std.proofs.lemmas.List.{append-nil, reverse-append}
use Rattle.std.specs.Prelude.{Vec, codes}
use Rattle.std.specs.declared.alloc.Global.{Global}
use Rattle.page_text.specs.declared.attribute.Attribute.{Attribute}
use Rattle.page_text.specs.declared.piece.Piece.{Piece}
use Rattle.page_text.specs.declared.piece.Piece.TheVariants as pieces
use Rattle.page_text.specs.declared.tag.Tag.{Tag}
use Rattle.page_text.specs.declared.tree.Tree.{Tree}
use Rattle.page_text.specs.Growing.{printed, open_tags, ending, outer}
use Rattle.page_text.specs.Printing.{page_text, piece_text, head_text, close_text}

pub printed_more : (ps : List Piece) (p : Piece)
    → page_text (ps ++ p ∷ []) ≡ page_text ps ++ piece_text p
printed_more ps p =
    flat_map-append piece_text ps (p ∷ [])
    ∙ ap (λ t. page_text ps ++ t) (append-nil (piece_text p))

pub opened : (ts : List Tag) (t : Tag) → reverse (ts ++ t ∷ []) ≡ t ∷ reverse ts
opened ts t = reverse-append ts (t ∷ [])

pub ending_of : (ts : List Tag) (t : Tag) → ending (reverse (ts ++ t ∷ [])) ≡ close_text t
ending_of ts t = ap ending (opened ts t)

pub outer_of : (ts : List Tag) (t : Tag) → outer (reverse (ts ++ t ∷ [])) ≡ reverse ts
outer_of ts t = ap outer (opened ts t)

-- what a tree prints, and what is open in it
pub printed_is : (tree : Tree) → printed tree ≡ page_text tree.pieces.items
unfolding printed
printed_is tree = refl

pub open_is : (tree : Tree) → open_tags tree ≡ reverse tree.begun.items
unfolding open_tags
open_is tree = refl

-- what begins an element, and what ends it
pub front_is : (tag : Tag) (attributes : Vec Attribute Global)
    → piece_text (pieces.Open tag attributes) ≡ head_text tag attributes.items (codes ">")
unfolding piece_text
front_is tag attributes = refl

pub close_is : (tag : Tag) → piece_text (pieces.Close tag) ≡ close_text tag
unfolding piece_text
close_is tag = refl

pub ruleset growth =
    (printed_more, opened, ending_of, outer_of, printed_is, open_is, front_is, close_is)
