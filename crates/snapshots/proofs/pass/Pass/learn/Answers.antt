use Rattle.snapshots.specs.Marks.{accepted}
use Rattle.snapshots.proofs.Accepts.{accepted_prefix}
use Rattle.snapshots.proofs.Prefixes.{prefix_trans}
use Rattle.snapshots.proofs.pass.Pass.learn.Goals as goal

pub returns-clause-told : goal.returns-clause-told
returns-clause-told g c = rw (← c.self.view_is) (accepted_prefix _ _ c.longer.ensures.this)

pub returns-clause-receipt : goal.returns-clause-receipt
returns-clause-receipt g c =
    prefix_trans c.args.receipt.now (accepted c.log.result.now) (accepted c.longer.result) c.log.ensures
    (accepted_prefix c.log.result.now c.longer.result c.longer.ensures.that)
