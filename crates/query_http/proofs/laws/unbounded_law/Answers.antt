use Rattle.query_http.proofs.Replying.{unbounded}
use Rattle.query_http.proofs.laws.unbounded_law.Goals as goal

pub returns : goal.returns
returns c = unbounded
