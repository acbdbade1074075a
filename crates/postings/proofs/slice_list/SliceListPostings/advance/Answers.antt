use Rattle.labels.proofs.Lists.{tail_range, rest-drop, rising-rest}
use Rattle.postings.proofs.slice_list.SliceListPostings.advance.Goals as goal

pub invariant_of-self : goal.invariant_of-self
invariant_of-self c = record { increasing = rw (tail_range, ← rest-drop) (rising-rest _ c.args.self.now.increasing) }
