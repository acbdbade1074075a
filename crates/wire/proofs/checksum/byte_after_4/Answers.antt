use Rattle.wire.proofs.TableLaws.{table_4_at}
use Rattle.wire.proofs.checksum.byte_after_4.Goals as goal

pub returns : goal.returns
returns c = table_4_at c.args.byte 0 c.requires
