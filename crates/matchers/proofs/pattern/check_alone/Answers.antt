use Rattle.matchers.proofs.Reading.{is_read}
use Rattle.matchers.proofs.pattern.check_alone.Goals as goal

pub returns-clause-read : goal.returns-clause-read
returns-clause-read c = is_read c.in_ok-_alone.ensures.ok
