use Rattle.labels.specs.Labels.{text_cmp}
use Rattle.labels.proofs.Texts.{text_total}
use Rattle.index_reader.specs.Seen.{bytes_of}
use Rattle.block_writer.proofs.Found.{found_there}
use Rattle.block_writer.proofs.symbols.number_near.Goals as goal

pub returns-then-stands_at : goal.returns-then-stands_at
returns-then-stands_at c =
    found_there text_cmp text_total (bytes_of c.args.symbols.now) c.args.guess c.args.text.now
    c.stands_at.result c.requires c.if-stands_at.true c.stands_at.ensures
