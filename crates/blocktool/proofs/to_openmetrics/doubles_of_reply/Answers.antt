use Rattle.reply_reader.specs.Replies.{told_of}
use Rattle.blocktool.proofs.to_openmetrics.doubles_of_reply.Goals as goal

pub returns : goal.returns
returns c = record {
  parts = (told_of c.in_ok-told.told).0;
  rows = c.in_ok-told.told.rows.items;
  said = c.in_ok-told.ensures;
  written = c.in_ok-text.ensures;
}
