use Rattle.whole_audit.specs.Taking.{lie_within}
use Rattle.whole_audit.proofs.Explained.{lie_end}
use Rattle.whole_audit.proofs.explaining.lie_within.Goals as goal

pub returns : goal.returns
returns c =
    lie_end c.loop-interval.rest.now c.args.certificate.now c.loop-interval.interval-index
    c.is_empty.result (lie_within c.args.numbers.now c.args.certificate.now)
    c.loop-interval-test.false c.is_empty.ensures c.loop-interval.invariant
