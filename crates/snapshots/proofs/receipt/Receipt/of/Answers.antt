use Rattle.std.proofs.Common.{rules}
use mathlib.Core.List.{IsPrefix}
use Rattle.snapshots.specs.Marks.{accepted, tried_of}
use Rattle.snapshots.proofs.Asked.{accepted_asked, take_asked}
use Rattle.snapshots.proofs.Prefixes.{prefix_length, take_begins, take_prefix}
use Rattle.snapshots.proofs.receipt.Receipt.of.Goals as goal

pub invariant_of-result : goal.invariant_of-result
invariant_of-result g c =
    let begins : IsPrefix (tried_of c.args.trial.now) (accepted c.args.done.now) = search rules in
    let short = prefix_length (tried_of c.args.trial.now) (accepted c.args.done.now) begins in
    rw (c.tried.ensures, c.share.ensures.same) short

pub returns-clause-list : goal.returns-clause-list
returns-clause-list g c =
    let begins : IsPrefix (tried_of c.args.trial.now) (accepted c.args.done.now) = search rules in
    rw (c.tried.ensures, c.share.ensures.same) (take_prefix (tried_of c.args.trial.now) (accepted c.args.done.now) begins)

pub returns-clause-done : goal.returns-clause-done
returns-clause-done g c = rw c.share.ensures.same (take_begins c.tried.result (accepted c.args.done.now))

pub returns-clause-asked : goal.returns-clause-asked
returns-clause-asked g c =
    take_asked g.J.Naming.asked c.tried.result (accepted c.share.result)
    (accepted_asked g.J.Naming.asked c.share.result c.share.ensures.asked)
