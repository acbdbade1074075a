use Rattle.std.proofs.Common.{◌≡◌, ◌∙◌, ◌++◌, ℕ, ℤ, List, length, ap, sym, subst, map, rules}
use Rattle.packed_chunks.specs.declared.chunks.Placed.{Placed}
use Rattle.packed_chunks.specs.Chunks.{chunks_in, moved, ArePlaced}
use Rattle.packed_chunks.proofs.Placing.{grown, same_chunks}
use Rattle.packed_chunks.proofs.Moving.{moved_placed, moved_chunks, both_placed, both_chunks}
use Rattle.packed_chunks.proofs.chunks.PackedChunks.append.Goals as goal

module _ (c : goal.After-drop-moved-2) where
  at : c.len-by.result ≡ length c.self.inside.rows.items
  at = search rules

  rows_are : c.extend_from_slice.new.self.items ≡ c.self.inside.rows.items ++ c.others.inside.rows.items
  rows_are = c.in_ok-extend_from_slice.ensures.items ∙ ap (λ (l : List ℕ). c.self.inside.rows.items ++ l) c.as_slice-2.ensures.value

  behind : c.as_slice-3.result.now ≡ map (moved c.len-by.result) c.others.inside.places.items
  behind = c.as_slice-3.ensures.value ∙ c.in_ok-moved.ensures ∙ ap (map (moved c.len-by.result)) c.as_slice.ensures.value

  places_are : c.extend_from_slice-2.new.self.items ≡ c.self.inside.places.items ++ map (moved c.len-by.result) c.others.inside.places.items
  places_are =
      c.in_ok-extend_from_slice-2.ensures.items
      ∙ ap (λ (l : List Placed). l ++ c.as_slice-3.result.now) c.in_ok-reserve.ensures.items
      ∙ ap (λ (l : List Placed). c.self.inside.places.items ++ l) behind

pub invariant_of-self-2 : goal.invariant_of-self-2
invariant_of-self-2 c =
    let all = c.extend_from_slice.new.self.items in
    let rows = c.self.inside.rows.items in
    let others = c.others.inside.rows.items in
    subst (λ (l : List Placed). ArePlaced all l) (sym (places_are c))
    (both_placed all c.self.inside.places.items (map (moved c.len-by.result) c.others.inside.places.items)
    (grown rows others all c.self.inside.places.items (rows_are c) c.self.invariant)
    (moved_placed rows others all c.len-by.result c.others.inside.places.items (at c) (rows_are c) c.others.invariant))

pub returns-clause-ok : goal.returns-clause-ok
returns-clause-ok c =
    let all = c.extend_from_slice.new.self.items in
    let rows = c.self.inside.rows.items in
    let others = c.others.inside.rows.items in
    let places = c.self.inside.places.items in
    let moves = map (moved c.len-by.result) c.others.inside.places.items in
    ap (λ (l : List Placed). chunks_in all l) (places_are c)
    ∙ both_chunks all places moves
    ∙ ap (λ (l : List (List (ℤ × ℤ))). l ++ chunks_in all moves) (same_chunks rows others all places (rows_are c) c.self.invariant ∙ c.self.view_is)
    ∙ ap (λ (l : List (List (ℤ × ℤ))). c.args.self.now ++ l) (moved_chunks rows others all c.len-by.result c.others.inside.places.items (at c) (rows_are c) ∙ c.others.view_is)
