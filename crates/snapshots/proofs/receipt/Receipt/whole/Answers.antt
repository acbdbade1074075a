use Rattle.std.proofs.Common.{arith}
use Rattle.snapshots.specs.Marks.{accepted}
use Rattle.snapshots.proofs.Asked.{accepted_asked, take_asked}
use Rattle.snapshots.proofs.Prefixes.{prefix_self, take_prefix}
use Rattle.snapshots.proofs.receipt.Receipt.whole.Goals as goal

pub invariant_of-result : goal.invariant_of-result
invariant_of-result g c = rw (c.accepted.ensures, c.share.ensures.same) (omega arith)

pub returns-clause-list : goal.returns-clause-list
returns-clause-list g c =
    rw (c.accepted.ensures, c.share.ensures.same)
    (take_prefix (accepted c.args.done.now) (accepted c.args.done.now) (prefix_self (accepted c.args.done.now)))

pub returns-clause-asked : goal.returns-clause-asked
returns-clause-asked g c =
    take_asked g.J.Naming.asked c.accepted.result (accepted c.share.result)
    (accepted_asked g.J.Naming.asked c.share.result c.share.ensures.asked)
