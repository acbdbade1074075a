-- What a piece at the end does to the elements that are open.
use Rattle.std.proofs.Common.{◌≡◌, List, [], ◌∷◌, ◌++◌, reverse, refl, ap, sym, ◌∙◌}
use Rattle.std.specs.Prelude.{Some, None, Vec, if◌then◌else◌}
use Rattle.std.specs.declared.alloc.Global.{Global}
use Rattle.std.proofs.lemmas.List.{reverse-append}
use Rattle.std.proofs.lemmas.List.Sums.{fold-append}
use Rattle.std.proofs.lemmas.Slice.Eq.{bytes_eq-Decides}
use Rattle.page_text.specs.declared.attribute.Attribute.{Attribute}
use Rattle.page_text.specs.declared.piece.Piece.{Piece}
use Rattle.page_text.specs.declared.piece.Piece.TheVariants as pieces
use Rattle.page_text.specs.declared.tag.Tag.{Tag}
use Rattle.page_text.specs.Markup.{tag_name}
use Rattle.page_text.specs.Nesting.{left_open, open_after, closed_by}

one_more : (ps : List Piece) (p : Piece)
    → left_open (ps ++ p ∷ []) ≡ open_after (left_open ps) p
one_more ps p = fold-append open_after (Some []) ps (p ∷ [])

reverse_more : (ts : List Tag) (t : Tag) → reverse (ts ++ t ∷ []) ≡ t ∷ reverse ts
reverse_more ts t = reverse-append ts (t ∷ [])

closed : (t : Tag) (ts : List Tag) → closed_by t (t ∷ ts) ≡ Some ts
closed t ts =
    ap (λ b. if b then Some ts else None)
    ((bytes_eq-Decides (tag_name t) (tag_name t)).1 refl)

-- a piece that keeps what is open
pub kept_more : (ps : List Piece) (p : Piece) (ts : List Tag) → left_open ps ≡ Some ts
    → open_after (Some ts) p ≡ Some ts → left_open (ps ++ p ∷ []) ≡ Some ts
kept_more ps p ts is keeps = one_more ps p ∙ ap (λ o. open_after o p) is ∙ keeps

-- an element that begins
pub opened_more : (ps : List Piece) (t : Tag) (attributes : Vec Attribute Global) (ts : List Tag)
    → left_open ps ≡ Some (reverse ts)
    → left_open (ps ++ pieces.Open t attributes ∷ []) ≡ Some (reverse (ts ++ t ∷ []))
opened_more ps t attributes ts is =
    one_more ps (pieces.Open t attributes) ∙ ap (λ o. open_after o (pieces.Open t attributes)) is
    ∙ ap (λ ts. Some ts) (sym (reverse_more ts t))

-- an element that ends
pub closed_more : (ps : List Piece) (t : Tag) (ts : List Tag)
    → left_open ps ≡ Some (reverse (ts ++ t ∷ []))
    → left_open (ps ++ pieces.Close t ∷ []) ≡ Some (reverse ts)
closed_more ps t ts is =
    one_more ps (pieces.Close t)
    ∙ ap (λ o. open_after o (pieces.Close t)) (is ∙ ap (λ ts. Some ts) (reverse_more ts t))
    ∙ closed t (reverse ts)

pub ruleset more = (kept_more, opened_more, closed_more)
