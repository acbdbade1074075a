use Rattle.std.proofs.Common.{◌≡◌, List, [], ◌∷◌, length, map, ap, sym, refl, ◌∙◌, arith, append-nil}
use Rattle.std.specs.BinaryHeap.{heap_items}
use Rattle.std.specs.Vec.Iter.{into_iter_items}
use Rattle.labels.specs.Sets.{union_all}
use Rattle.std.proofs.lemmas.List.Sorted.{IsPermutation-map}
use Rattle.postings.proofs.Heaped.{union_permuted}
use Rattle.postings.proofs.union.Union.new.Goals as goal

nothing_left : {X : Type 0} (l : List X) → length l ≡ 0 → l ≡ []
nothing_left [] h = refl
nothing_left (x ∷ xs) h = absurd (omega arith)

pub returns : goal.returns
returns g c =
    let at = c.loop-list in
    let empty : into_iter_items at.list-iterator ≡ [] = nothing_left _ (sym at.invariant.left ∙ c.in-None.ensures.steps.0) in
    let taken : at.yielded ≡ c.args.lists.items = sym (append-nil at.yielded) ∙ rw empty at at.invariant.rest ∙ c.into_iter-list-iterator.ensures.into_iter_gives.0 in
    sym (union_permuted _ _ (IsPermutation-map (λ s. g.P.Postings.remaining s.list) at.standing.items (heap_items c.from.result) c.from.ensures.1))
    ∙ ap union_all (at.invariant.same ∙ ap (λ lists. map g.P.Postings.remaining lists) taken)
