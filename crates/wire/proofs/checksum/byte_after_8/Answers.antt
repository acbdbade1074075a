use Rattle.wire.proofs.TableLaws.{table_8_at}
use Rattle.wire.proofs.checksum.byte_after_8.Goals as goal

pub returns : goal.returns
returns c = table_8_at c.args.byte 0 c.requires
