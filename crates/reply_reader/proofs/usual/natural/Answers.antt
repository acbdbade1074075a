use Rattle.serde_json.specs.Find.{as_u64}
use Rattle.reply_reader.proofs.UsualTexts.{number_comes}
use Rattle.reply_reader.proofs.usual.natural.Goals as goal

pub returns-in-Some : goal.returns-in-Some
returns-in-Some c =
    number_comes as_u64 c.args.reader.now c.number.new.reader c.in_ok-number.field-0.now
    c.in-Some.value c.in_ok-number.ensures c.in-Some.ensures
