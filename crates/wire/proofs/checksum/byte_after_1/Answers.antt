use Rattle.wire.proofs.TableLaws.{table_1_at}
use Rattle.wire.proofs.checksum.byte_after_1.Goals as goal

pub returns : goal.returns
returns c = table_1_at c.args.byte 0 c.requires
