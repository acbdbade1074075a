use Rattle.std.proofs.Common.{◌∙◌}
use Rattle.block_search.proofs.InTurn.{one_more, all_told}
use Rattle.block_search.proofs.parts.search_one_by_one.Goals as goal

pub loop-place-preserved : goal.loop-place-preserved
loop-place-preserved c =
    one_more c.args.query.now c.args.snapshot.now c.deref-place-items.result.now
    c.loop-place.place-index c.loop-place.answers.items _ c.in_ok-search_place.field-0
    c.loop-place-test.true c.in_ok-push.ensures.items c.loop-place.invariant
    c.in_ok-search_place.ensures

pub returns-clause-each : goal.returns-clause-each
returns-clause-each c =
    all_told c.args.query.now c.args.snapshot.now c.deref-place-items.result.now
    c.loop-place.place-index c.loop-place.answers.items c.loop-place-test.false
    (c.deref-place-items.ensures.value ∙ c.in_ok-places.ensures.places) c.loop-place.invariant
