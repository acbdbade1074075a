use Rattle.block_outputs.proofs.Held.{outputs_hold}
use Rattle.block_outputs.proofs.contents.outputs_hold_contents.Goals as goal

pub returns : goal.returns
returns c = outputs_hold
