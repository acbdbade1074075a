use Rattle.std.proofs.Common.{◌≡◌, suc}
use Rattle.std.specs.BinaryHeap.{IsHeap, heap_items}
use Rattle.labels.specs.Ascending.{not_below}
use Rattle.postings.specs.Standing.{earlier, united, left_of}
use Rattle.postings.proofs.union.UnionPostings.advance.Given as goal

abbrev pub invariant-loop-self : goal.invariant-loop-self
invariant-loop-self g l = record {
  heap : IsHeap (earlier (λ s. s.first)) (heap_items l.self-inside.lists);
  same : not_below (suc l.first) (united (λ s. g.P.Postings.remaining s.list) (heap_items l.self-inside.lists))
      ≡ not_below (suc l.first) (united (λ s. g.P.Postings.remaining s.list) (heap_items l.initial.self-inside.lists));
}

abbrev pub decreases-loop-self : goal.decreases-loop-self
decreases-loop-self g l = left_of (λ s. g.P.Postings.remaining s.list) (heap_items l.self-inside.lists)
