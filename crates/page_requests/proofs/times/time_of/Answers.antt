use Rattle.std.proofs.Common.{◌≡◌, true, rules}
use Rattle.requests.specs.Times.{is_integer}
use Rattle.requests.proofs.TimeTexts.{time_unless}
use Rattle.page_requests.proofs.times.time_of.Goals as goal

pub returns-in_default-2-clause-value : goal.returns-in_default-2-clause-value
returns-in_default-2-clause-value c =
    let integer : is_integer c.args.text.now ≡ true = search rules in
    time_unless c.args.text.now integer c.in_default.ensures.value.0
