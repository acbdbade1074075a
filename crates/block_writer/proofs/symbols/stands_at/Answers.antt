use Rattle.index_reader.specs.Seen.{bytes_of}
use Rattle.block_writer.proofs.Found.{same_there}
use Rattle.block_writer.proofs.symbols.stands_at.Goals as goal

pub returns : goal.returns
returns c =
    same_there c.is_same.result (bytes_of c.args.symbols.now) c.args.at c.text_at.result.now
    c.args.text.now c.text_at.ensures c.is_same.ensures
