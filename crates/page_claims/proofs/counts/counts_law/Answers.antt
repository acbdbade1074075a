use Rattle.page_claims.proofs.Counted.{count_append}
use Rattle.page_claims.proofs.counts.counts_law.Goals as goal

pub returns : goal.returns
returns c = count_append
