use Rattle.wire.proofs.TableLaws.{table_3_at}
use Rattle.wire.proofs.checksum.byte_after_3.Goals as goal

pub returns : goal.returns
returns c = table_3_at c.args.byte 0 c.requires
