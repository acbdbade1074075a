use Rattle.page_layout.proofs.Edges.{partition}
use Rattle.page_layout.proofs.columns.columns_law.Goals as goal

pub returns : goal.returns
returns c = partition
