use Rattle.reply_reader.proofs.UsualReplies.{interval_comes}
use Rattle.reply_reader.proofs.usual.interval.Goals as goal

pub returns : goal.returns
returns c =
    interval_comes c.args.reader.now c.begin_object.new.reader c.key.new.reader
    c.reference.new.reader c.key-2.new.reader c.natural.new.reader c.key-3.new.reader
    c.verdict.new.reader c.end_object.new.reader c.in_ok-from.from c.in_ok-until.until
    c.in_ok-verdict.verdict c.in_ok-begin_object.ensures c.in_ok-key.ensures c.in_ok-from.ensures
    c.in_ok-key-2.ensures c.in_ok-until.ensures c.in_ok-key-3.ensures c.in_ok-verdict.ensures
    c.in_ok-end_object.ensures
