use Rattle.std.proofs.Common.{◌≡◌, true, rules}
use Rattle.requests.specs.Fields.{is_decimal}
use Rattle.remote_requests.proofs.LengthTexts.{limit_past}
use Rattle.remote_requests.proofs.listings.limit_of.Goals as goal

pub returns-in-Err : goal.returns-in-Err
returns-in-Err c =
    let decimal : is_decimal c.args.text.now ≡ true = search rules in
    limit_past _ c.args.text.now c.in-Err.field-0 decimal c.in-Err.ensures.value.0
