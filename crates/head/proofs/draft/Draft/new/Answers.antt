use Rattle.std.proofs.Common.{rules}
use Rattle.head.proofs.SlotLaws.{none_in, new_slots}
use Rattle.std.specs.Ordering.{nat_cmp}
use Rattle.std.specs.BTreeMap.{get}
use Rattle.head.proofs.draft.Draft.new.Goals as goal

pub returns : goal.returns
returns c = new_slots c.args.last (get nat_cmp c.new.result) c.new-2.result.items (none_in c.new.result c.new.ensures.empty) (search rules)
