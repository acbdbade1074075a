use Rattle.std.proofs.Common.{sym}
use Rattle.serde_json.specs.Find.{as_str}
use Rattle.reply_reader.specs.Replies.{name_said}
use Rattle.reply_reader.proofs.UsualTexts.{text_comes, comes_through}
use Rattle.reply_reader.proofs.usual.part_name.Goals as goal

pub returns-in-Some : goal.returns-in-Some
returns-in-Some c =
    let text = c.in_ok-text.field-0.now in
    comes_through as_str name_said 0 c.args.reader.now c.text.new.reader text c.in-Some.name
    (text_comes c.args.reader.now c.text.new.reader text c.in_ok-text.ensures)
    (sym c.in-Some.ensures)
