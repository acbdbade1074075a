use Rattle.varints.proofs.Laws.{varint_small, varint_spelled}
use Rattle.varints.proofs.put.put_varint.Goals as goal

pub returns-in_err-push-clause-spelled : goal.returns-in_err-push-clause-spelled
returns-in_err-push-clause-spelled c = varint_spelled c.args.n c.ranges.n.fits

pub returns-then-n-lt128-clause-ok : goal.returns-then-n-lt128-clause-ok
returns-then-n-lt128-clause-ok c =
    rw (varint_small c.args.n c.if-n-lt128.true) c.in_ok-push.ensures.items

pub returns-then-n-lt128-clause-spelled : goal.returns-then-n-lt128-clause-spelled
returns-then-n-lt128-clause-spelled c = varint_spelled c.args.n c.ranges.n.fits

pub returns-clause-spelled : goal.returns-clause-spelled
returns-clause-spelled c = varint_spelled c.args.n c.ranges.n.fits
