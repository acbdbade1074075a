use Rattle.waiting_room.proofs.Fronts.{settled, framing_kept, only_framing}
use Rattle.waiting_room.proofs.laws.front_law.Goals as goal

pub returns-clause-settles : goal.returns-clause-settles
returns-clause-settles c = settled

pub returns-clause-keeps : goal.returns-clause-keeps
returns-clause-keeps c = framing_kept

pub returns-clause-alone : goal.returns-clause-alone
returns-clause-alone c = only_framing
