use Rattle.std.proofs.Common.{rules, w64, SFits}
use Rattle.std.proofs.lemmas.Int.{to_z-of_z}
use Rattle.serde_json.specs.Find.{as_i64}
use Rattle.reply_reader.proofs.UsualTexts.{number_comes}
use Rattle.reply_reader.proofs.usual.integer.Goals as goal

pub returns-in-Some : goal.returns-in-Some
returns-in-Some c =
    let fits : SFits w64 c.in-Some.value = search rules in
    rw (to_z-of_z w64 _ fits) (number_comes as_i64 c.args.reader.now c.number.new.reader
    c.in_ok-number.field-0.now c.in-Some.value c.in_ok-number.ensures c.in-Some.ensures)
