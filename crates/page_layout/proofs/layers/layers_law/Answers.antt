use Rattle.page_layout.proofs.Edges.{top_more, top_full}
use Rattle.page_layout.proofs.layers.layers_law.Goals as goal

pub returns-clause-seen : goal.returns-clause-seen
returns-clause-seen c = top_more

pub returns-clause-full : goal.returns-clause-full
returns-clause-full c = top_full
