use Rattle.std.proofs.Common.{refl}
use Rattle.std.specs.BinaryHeap.{heap_items, heap_len}
use Rattle.postings.proofs.Heaped.{top_in, top_begins}
use Rattle.postings.proofs.union.begins.Goals as goal

pub returns-in-Some : goal.returns-in-Some
returns-in-Some g c =
    let heap = c.args.lists.now in
    let top = c.in-Some.top.now in
    top_begins (λ s. g.P.Postings.remaining s.list) (λ s. s.first) (λ s. s.begins) top (heap_items heap)
    (top_in (λ s. g.P.Postings.remaining s.list) (heap_items heap) (heap_len heap) top heap.data.ok.0 (c.in-Some.ensures.variant.0 refl) c.in-Some.ensures.lookup)
    (c.in-Some.ensures.greatest c.requires) (λ s. g.met.P.Postings.ascending s.list)
