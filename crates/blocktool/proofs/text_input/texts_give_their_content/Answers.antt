use Rattle.blocktool.proofs.Contents.{rows_give}
use Rattle.blocktool.proofs.text_input.texts_give_their_content.Goals as goal

pub returns : goal.returns
returns c all others rounded s rows old new given = rows_give all s rows old given.0 given.1
