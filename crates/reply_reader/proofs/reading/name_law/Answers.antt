use Rattle.reply_reader.proofs.Naming.{name_is, name_back}
use Rattle.reply_reader.proofs.reading.name_law.Goals as goal

pub returns : goal.returns
returns c = record { written = name_is; block = name_back }
