use Rattle.std.proofs.Common.{◌≡◌, [], IsUtf8, subst, rules}
use Rattle.json.specs.Lex.{tokens}
use Rattle.reply_reader.specs.Replies.{reply_said, told_of}
use Rattle.reply_reader.specs.Usual.{Comes}
use Rattle.reply_reader.proofs.UsualReplies.{text_says}
use Rattle.reply_reader.proofs.usual.reply_of_text.Goals as goal

pub returns-in-None : goal.returns-in-None
returns-in-None c =
    let text = c.args.text.now in
    let told = told_of c.in_ok-reply.reply in
    let utf8 : IsUtf8 text = search rules in
    let start : c.in_ok-reader.reader ≡ tokens text = search rules in
    let none : c.reply.new.reader ≡ [] = search rules in
    text_says text told utf8
    (subst (λ r. Comes reply_said 7 (tokens text) told r) none
    (subst (λ r. Comes reply_said 7 r told c.reply.new.reader) start c.in_ok-reply.ensures))
