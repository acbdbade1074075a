use Rattle.std.proofs.Common.{◌≡◌, ◌∷◌, ◌∙◌, IfOk, codes, sym, ap, subst, rules}
use Rattle.json.specs.Token.{Token}
use Rattle.reply_reader.specs.Replies.{part_said, told_of_part}
use Rattle.reply_reader.specs.Usual.{Comes}
use Rattle.reply_reader.proofs.usual.part.Goals as goal

pub returns-in-Some-Key-intervals : goal.returns-in-Some-Key-intervals
returns-in-Some-Key-intervals c =
    let keyed : c.begin_object.new.reader
    ≡ Token.key (codes "intervals") ∷ c.next.new.self = search rules in
    let opened = c.in_ok-begin_object.ensures ∙ ap (λ ts. Token.begin_object ∷ ts) keyed in
    subst (λ old. IfOk c.searched.result (λ part. Comes part_said 5 old (told_of_part part)
    c.searched.new.reader)) (sym opened) c.searched.ensures
