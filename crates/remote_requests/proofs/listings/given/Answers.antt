use Rattle.std.proofs.Common.{sym, ap, ◌∙◌}
use Rattle.std.specs.Str.{bytes_eq}
use Rattle.remote_requests.specs.Parameters.{not_empty}
use Rattle.remote_requests.proofs.ListingTurns.{given_at}
use Rattle.remote_requests.proofs.listings.given.Goals as goal

pub returns-then-eq : goal.returns-then-eq
returns-then-eq c =
    c.not_empty.ensures
    ∙ ap not_empty c.as_str-then-eq.ensures.value
    ∙ sym (given_at c.args.name.now c.args.pairs.now c.loop-pair.pair-index c.pair-item.result _
    c.loop-pair-test.true c.pair-item.is
    (ap (λ t. bytes_eq t c.args.name.now) (sym c.as_str.ensures.value) ∙ sym c.eq.ensures
    ∙ c.if-eq.true)
    c.loop-pair.invariant)
