use Rattle.matchers.proofs.Reaching.{one_reading}
use Rattle.matchers.proofs.selector.Selector.one_reading.Goals as goal

pub returns : goal.returns
returns c = one_reading
