use Rattle.std.proofs.Common.{◌≡◌, [], IsUtf8, subst, rules}
use Rattle.json.specs.Lex.{tokens}
use Rattle.requests.specs.Usual.{Comes, rows_of_list}
use Rattle.requests.proofs.UsualTexts.{text_writes}
use Rattle.requests.proofs.usual.rows_of_text.Goals as goal

pub returns-in-None : goal.returns-in-None
returns-in-None c =
    let text = c.args.text.now in
    let read = c.in_ok-rows.ensures in
    let utf8 : IsUtf8 text = search rules in
    let start : c.in_ok-reader.reader ≡ tokens text = search rules in
    let none : c.rows.new.reader ≡ [] = search rules in
    let comes = subst (λ r. Comes rows_of_list 4 (tokens text) read.0 r) none
    (subst (λ r. Comes rows_of_list 4 r read.0 c.rows.new.reader) start read.1) in
    record { written = read.0; spelled = text_writes text read.0 utf8 comes; each = read.2 }
