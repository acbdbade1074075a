use Rattle.index_reader.proofs.Sound.{lists_counted}
use Rattle.index_reader.proofs.parts.postings_of.Goals as goal

pub invariant_of-result : goal.invariant_of-result
invariant_of-result c = record {
  paired = lists_counted _ _ _ _ (rw c.deref.ensures.value at c.in_ok-lists.ensures);
}
