use Rattle.std.proofs.Common.{map}
use Rattle.reply_reader.specs.Replies.{told_of_part}
use Rattle.reply_reader.proofs.UsualReplies.{reply_comes}
use Rattle.reply_reader.proofs.usual.reply.Goals as goal

pub returns : goal.returns
returns c =
    reply_comes c.args.reader.now c.begin_object.new.reader c.key.new.reader c.parts.new.reader
    c.key-2.new.reader c.rows.new.reader c.end_object.new.reader
    (map told_of_part c.in_ok-parts.parts.items) c.in_ok-rows.rows.items
    c.in_ok-begin_object.ensures c.in_ok-key.ensures c.in_ok-parts.ensures c.in_ok-key-2.ensures
    c.in_ok-rows.ensures c.in_ok-end_object.ensures
