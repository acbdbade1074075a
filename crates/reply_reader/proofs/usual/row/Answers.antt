use Rattle.reply_reader.proofs.UsualReplies.{row_comes}
use Rattle.reply_reader.proofs.usual.row.Goals as goal

pub returns : goal.returns
returns c =
    rw c.new.ensures
    (row_comes c.args.reader.now c.begin_object.new.reader c.key.new.reader c.label_set.new.reader
    c.key-2.new.reader c.samples.new.reader c.end_object.new.reader c.in_ok-labels.labels
    c.in_ok-samples.samples.items c.in_ok-begin_object.ensures c.in_ok-key.ensures
    c.in_ok-labels.ensures c.in_ok-key-2.ensures c.in_ok-samples.ensures
    c.in_ok-end_object.ensures)
