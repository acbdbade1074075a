use Rattle.block_rewriter.proofs.Full.{same_points}
use Rattle.block_rewriter.proofs.laws.full_rows_have_all.Goals as goal

pub returns : goal.returns
returns c = same_points
