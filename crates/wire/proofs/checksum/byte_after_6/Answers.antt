use Rattle.wire.proofs.TableLaws.{table_6_at}
use Rattle.wire.proofs.checksum.byte_after_6.Goals as goal

pub returns : goal.returns
returns c = table_6_at c.args.byte 0 c.requires
