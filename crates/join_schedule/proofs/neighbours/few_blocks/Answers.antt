use Rattle.join_schedule.proofs.Few.{few}
use Rattle.join_schedule.proofs.neighbours.few_blocks.Goals as goal

pub returns : goal.returns
returns c most blocks h = few most blocks h
