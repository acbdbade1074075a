use Rattle.std.proofs.Common.{arith}
use Rattle.std.proofs.lemmas.Str.{is_utf8-from_IsUtf8}
use Rattle.event_text.proofs.Spelled.{always}
use Rattle.event_text.proofs.writing.put_string.Goals as goal

pub returns-clause-spelled : goal.returns-clause-spelled
returns-clause-spelled c =
    always c.put_bytes.result _ (record {
      utf8 = is_utf8-from_IsUtf8 c.args.text.now c.utf8.text;
      short = omega (arith, c.put_count.ensures.small);
    })
