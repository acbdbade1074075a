use Rattle.std.proofs.Common.{◌≡◌, subst}
use Rattle.postings.specs.declared.part_name.PartName.TheVariants.{Block}
use Rattle.reply_reader.specs.Replies.{part_name_said}
use Rattle.reply_reader.specs.Usual.{Comes}
use Rattle.reply_reader.proofs.UsualReplies.{skipped_comes}
use Rattle.reply_reader.proofs.usual.skipped.Goals as goal

pub returns-in-Block : goal.returns-in-Block
returns-in-Block c =
    let number = c.in-Block.number in
    let named : c.in_ok-name.name ≡ Block number = c.in-Block.is in
    skipped_comes c.args.reader.now c.part_name.new.reader c.key.new.reader c.yes.new.reader
    c.end_object.new.reader number
    (subst (λ name. Comes part_name_said 0 c.args.reader.now name c.part_name.new.reader) named
    c.in_ok-name.ensures)
    c.in_ok-key.ensures c.in_ok-yes.ensures c.in_ok-end_object.ensures
