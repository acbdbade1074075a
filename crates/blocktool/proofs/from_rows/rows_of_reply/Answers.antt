use Rattle.reply_reader.specs.Replies.{told_of}
use Rattle.blocktool.proofs.from_rows.rows_of_reply.Goals as goal

pub returns : goal.returns
returns c = ((told_of c.in_ok-told.told).0, c.in_ok-told.ensures)
