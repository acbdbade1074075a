use Rattle.wire.proofs.TableLaws.{table_5_at}
use Rattle.wire.proofs.checksum.byte_after_5.Goals as goal

pub returns : goal.returns
returns c = table_5_at c.args.byte 0 c.requires
