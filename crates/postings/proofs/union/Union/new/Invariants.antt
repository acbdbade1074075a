use Rattle.std.proofs.Common.{◌≡◌, ◌++◌, map, length}
use Rattle.std.specs.Vec.Iter.{into_iter_items, into_iter_len}
use Rattle.postings.proofs.union.Union.new.Given as goal

abbrev pub invariant-loop-list : goal.invariant-loop-list
invariant-loop-list g l = record {
  rest : l.yielded ++ into_iter_items l.list-iterator ≡ into_iter_items l.initial.list-iterator;
  left : into_iter_len l.list-iterator ≡ length (into_iter_items l.list-iterator);
  same : map (λ s. g.P.Postings.remaining s.list) l.standing.items ≡ map g.P.Postings.remaining l.yielded;
}
