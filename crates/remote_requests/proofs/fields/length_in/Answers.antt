use Rattle.std.proofs.Common.{◌≡◌, true, rules, sym}
use Rattle.requests.specs.Fields.{is_decimal}
use Rattle.requests.proofs.FieldTexts.{decimal_is_text}
use Rattle.remote_requests.proofs.LengthTexts.{length_past}
use Rattle.remote_requests.proofs.fields.length_in.Goals as goal

pub returns-in_default : goal.returns-in_default
returns-in_default c =
    let decimal : is_decimal c.args.value.now ≡ true = search rules in
    absurd (c.in_default.ensures.cases.0 (decimal_is_text c.args.value.now decimal))

pub returns-in-Err : goal.returns-in-Err
returns-in-Err c =
    let decimal : is_decimal c.args.value.now ≡ true = search rules in
    sym (length_past _ c.args.value.now c.in-Err.field-0 decimal (rw c.in-Ok.ensures.cases.0
    at c.in-Err.ensures.value.0))
