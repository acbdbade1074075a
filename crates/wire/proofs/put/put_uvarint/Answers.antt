use Rattle.wire.proofs.Uniqueness.{uvarint_alone}
use Rattle.wire.proofs.put.put_uvarint.Goals as goal

pub returns-clause-alone : goal.returns-clause-alone
returns-clause-alone c = uvarint_alone c.args.n c.ranges.n.fits
