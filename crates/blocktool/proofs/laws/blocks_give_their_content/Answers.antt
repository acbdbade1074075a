use Rattle.blocktool.proofs.Contents.{block_gives}
use Rattle.blocktool.proofs.laws.blocks_give_their_content.Goals as goal

pub returns : goal.returns
returns g c = block_gives _ c.parts_have_the_rows_between.ensures
