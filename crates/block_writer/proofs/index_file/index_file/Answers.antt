use Rattle.std.proofs.Common.{subst}
use Rattle.block_writer.specs.Typed.{HaveTexts}
use Rattle.block_writer.proofs.index_file.index_file.Goals as goal

pub returns-clause-typed : goal.returns-clause-typed
returns-clause-typed c = subst HaveTexts c.rows-rows.ensures.shown c.in_ok-pairs.ensures.typed
