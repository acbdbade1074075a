use Rattle.head_record.proofs.Worlds.{in_front}
use Rattle.head_record.proofs.laws.heads_are_in_front.Goals as goal

pub returns : goal.returns
returns c saved = in_front saved
