use Rattle.reply_reader.proofs.UsualReplies.{searched_comes}
use Rattle.reply_reader.proofs.usual.searched.Goals as goal

pub returns : goal.returns
returns c =
    searched_comes c.args.reader.now c.intervals.new.reader c.key.new.reader
    c.part_name.new.reader c.key-2.new.reader c.rows.new.reader c.key-3.new.reader
    c.references.new.reader c.end_object.new.reader c.in_ok-certificate.certificate.items
    c.in_ok-part.part c.in_ok-rows.rows.items c.in_ok-separators.separators.items
    c.in_ok-certificate.ensures c.in_ok-key.ensures c.in_ok-part.ensures c.in_ok-key-2.ensures
    c.in_ok-rows.ensures c.in_ok-key-3.ensures c.in_ok-separators.ensures c.in_ok-end_object.ensures
