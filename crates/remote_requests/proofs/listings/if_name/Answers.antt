use Rattle.std.proofs.Common.{sym, ◌∙◌}
use Rattle.remote_requests.proofs.ListingTurns.{no_name, some_name}
use Rattle.remote_requests.proofs.listings.if_name.Goals as goal

pub returns-in_default : goal.returns-in_default
returns-in_default c = no_name c.args.bytes.now c.in_default.ensures.cases.0

pub returns-then-is_name : goal.returns-then-is_name
returns-then-is_name c =
    some_name c.args.bytes.now c.in-Ok.name.now c.in-Ok.ensures.cases.0 c.in-Ok.ensures.cases.1
    (sym c.is_name.ensures ∙ c.if-is_name.true)
