use Rattle.std.proofs.Common.{rules, w64, SFits}
use Rattle.std.proofs.lemmas.Int.{to_z-of_z}
use Rattle.requests.proofs.UsualTexts.{integer_comes}
use Rattle.requests.proofs.usual.integer.Goals as goal

pub returns-in-Some : goal.returns-in-Some
returns-in-Some c =
    let fits : SFits w64 c.in-Some.value = search rules in
    rw (to_z-of_z w64 _ fits) (integer_comes c.args.reader.now c.number.new.reader
    c.in_ok-text.text.now c.in-Some.value c.in_ok-text.ensures c.in-Some.ensures)
