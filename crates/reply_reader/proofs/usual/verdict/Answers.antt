use Rattle.std.proofs.Common.{◌≡◌, ◌∷◌, sym, rules}
use Rattle.json.specs.Token.{Token}
use Rattle.reply_reader.proofs.UsualReplies.{named_comes, rejected_comes}
use Rattle.reply_reader.proofs.usual.verdict.Goals as goal

pub returns-in-Some : goal.returns-in-Some
returns-in-Some c =
    let text = c.in-Some-String.text.now in
    let first : c.args.reader.now ≡ Token.string text ∷ c.next.new.self = search rules in
    named_comes c.args.reader.now c.next.new.self text c.in-Some.verdict first
    (sym c.in-Some.ensures)

pub returns-in-Some-natural_of : goal.returns-in-Some-natural_of
returns-in-Some-natural_of c =
    let text = c.in-Some-Number.text.now in
    let first : c.args.reader.now ≡ Token.number text ∷ c.next.new.self = search rules in
    rejected_comes c.args.reader.now c.next.new.self text c.in-Some-natural_of.number first
    c.in-Some-natural_of.ensures
