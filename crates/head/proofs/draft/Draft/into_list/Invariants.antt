use Rattle.std.proofs.Common.{◌≡◌, ◌++◌, length}
use Rattle.std.specs.Vec.Iter.{into_iter_items, into_iter_len}
use Rattle.head.proofs.draft.Draft.into_list.Given as goal

-- the series that were begun so far stand at the end
abbrev pub invariant-loop-series : goal.invariant-loop-series
invariant-loop-series l = record {
  rest : l.yielded ++ into_iter_items l.series-iterator ≡ into_iter_items l.initial.series-iterator;
  left : into_iter_len l.series-iterator ≡ length (into_iter_items l.series-iterator);
  same : l.list ≡ l.initial.list ++ l.yielded;
}
