use Rattle.std.proofs.Common.{sym, ap, refl, ◌∙◌}
use Rattle.std.specs.BinaryHeap.{heap_items, heap_len}
use Rattle.labels.specs.Ascending.{first_of}
use Rattle.labels.specs.Sets.{union_all}
use Rattle.postings.proofs.Heaped.{top_in, top_first}
use Rattle.postings.proofs.union.UnionPostings.current.Goals as goal

pub returns : goal.returns
returns g c =
    let heap = c.self.inside.lists in
    let top = c.in_ok-peek.field-0.now in
    c.current.ensures
    ∙ sym (top_first (λ s. g.P.Postings.remaining s.list) (λ s. s.first) (λ s. s.begins) top (heap_items heap)
    (top_in (λ s. g.P.Postings.remaining s.list) (heap_items heap) (heap_len heap) top heap.data.ok.0 (c.in_ok-peek.ensures.variant.0 refl) c.in_ok-peek.ensures.lookup)
    (c.in_ok-peek.ensures.greatest c.self.invariant) (λ s. g.met.P.Postings.ascending s.list))
    ∙ ap (λ xss. first_of (union_all xss)) c.self.view_is
