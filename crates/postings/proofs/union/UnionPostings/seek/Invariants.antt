use Rattle.std.proofs.Common.{◌≡◌, suc}
use Rattle.std.specs.BinaryHeap.{IsHeap, heap_items}
use Rattle.labels.specs.Ascending.{not_below}
use Rattle.postings.specs.Standing.{earlier, united, left_of}
use Rattle.postings.proofs.union.UnionPostings.seek.Given as goal

abbrev pub invariant-loop-target : goal.invariant-loop-target
invariant-loop-target g l = record {
  heap : IsHeap (earlier (λ s. s.first)) (heap_items l.self-inside.lists);
  same : not_below l.target (united (λ s. g.P.Postings.remaining s.list) (heap_items l.self-inside.lists))
      ≡ not_below l.target (united (λ s. g.P.Postings.remaining s.list) (heap_items l.initial.self-inside.lists));
}

abbrev pub decreases-loop-target : goal.decreases-loop-target
decreases-loop-target g l = left_of (λ s. g.P.Postings.remaining s.list) (heap_items l.self-inside.lists)
