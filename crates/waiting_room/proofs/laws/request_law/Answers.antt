use Rattle.waiting_room.proofs.Fronts.{only_request}
use Rattle.waiting_room.proofs.laws.request_law.Goals as goal

pub returns : goal.returns
returns c = only_request
