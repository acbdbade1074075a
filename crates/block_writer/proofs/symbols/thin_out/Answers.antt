use Rattle.labels.specs.Labels.{pair_cmp}
use Rattle.block_writer.proofs.Found.{those_themselves, once_are_those}
use Rattle.block_writer.proofs.symbols.thin_out.Goals as goal

pub returns-then-len-many : goal.returns-then-len-many
returns-then-len-many c = those_themselves _

pub returns : goal.returns
returns c = once_are_those pair_cmp _ _ c.keep_once.ensures
