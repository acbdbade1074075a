use Rattle.std.proofs.Common.{◌≡◌, ℕ, ◌+◌, ◌<◌, ◌≤◌, slice_index_or}
use Rattle.labels.specs.Ascending.{not_below}
use Rattle.cover.proofs.walk.seek_each.Given as goal

abbrev pub invariant-loop-list : goal.invariant-loop-list
invariant-loop-list g l = record {
  moved : (k : ℕ) (d : _) → k < l.list-index → g.P.Postings.remaining (slice_index_or l.lists k d).0
      ≡ not_below l.from (g.P.Postings.remaining (slice_index_or l.initial.lists k d).0);
  counted : (k : ℕ) (d : _) → k < l.list-index
      → (slice_index_or l.lists k d).1 ≤ (slice_index_or l.initial.lists k d).1 + 1;
  rest : (k : ℕ) (d : _) → l.list-index ≤ k
      → slice_index_or l.lists k d ≡ slice_index_or l.initial.lists k d;
}
