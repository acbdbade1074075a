use Rattle.wire.proofs.TableLaws.{table_7_at}
use Rattle.wire.proofs.checksum.byte_after_7.Goals as goal

pub returns : goal.returns
returns c = table_7_at c.args.byte 0 c.requires
