use Rattle.remote_read.proofs.Answered.{response_read, response_once}
use Rattle.remote_read.proofs.answer.response_is_read_back.Goals as goal

pub returns-clause-means : goal.returns-clause-means
returns-clause-means c results f = response_read results f

pub returns-clause-one : goal.returns-clause-one
returns-clause-one c bytes results others x y = response_once bytes results others x y
