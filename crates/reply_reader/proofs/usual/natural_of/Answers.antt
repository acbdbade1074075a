use Rattle.std.proofs.Common.{◌≡◌, ◌<◌, Some, sym, ap, ◌∙◌, rules}
use Rattle.std.specs.Prelude.{option_and_then}
use Rattle.serde_json.specs.Find.{as_u64}
use Rattle.reply_reader.specs.Replies.{number_said}
use Rattle.reply_reader.proofs.Naming.{number_read}
use Rattle.reply_reader.proofs.usual.natural_of.Goals as goal

pub returns : goal.returns
returns c =
    let text = c.args.text.now in
    let n = c.in_ok-number.number in
    let fits : n < 18446744073709551616 = search rules in
    let said : number_said text ≡ Some n =
    sym (c.in_ok-number.ensures ∙ ap number_said c.as_bytes.ensures.value) in
    ap (option_and_then as_u64) (number_read text n said fits)
