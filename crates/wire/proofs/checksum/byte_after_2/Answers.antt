use Rattle.wire.proofs.TableLaws.{table_2_at}
use Rattle.wire.proofs.checksum.byte_after_2.Goals as goal

pub returns : goal.returns
returns c = table_2_at c.args.byte 0 c.requires
