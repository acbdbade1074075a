use Rattle.blocktool.proofs.Contents.{rows_give}
use Rattle.blocktool.proofs.listed.rows_give_their_content.Goals as goal

pub returns : goal.returns
returns c = rows_give
