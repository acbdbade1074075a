use Rattle.store_folder.specs.RewritingLaws.{same_replay}
use Rattle.store_folder.proofs.laws.rewritten_blocks.Goals as goal

pub returns : goal.returns
returns c first events s saved parts same head floor h =
    same_replay first events s saved parts same head floor h
