use Rattle.serde_json.specs.View.{members_view}
use Rattle.requests.proofs.RowTexts.{pairs_turn}
use Rattle.requests.proofs.write.pairs_in.Goals as goal

pub loop-name-preserved : goal.loop-name-preserved
loop-name-preserved c =
    let one = rw c.in-Some-2.is at c.in_ok-pair.ensures in
    pairs_turn (members_view c.args.members.now.entries) _ _ c.in-Some.name.now c.in-Some.value.now
    c.in-Some-2.pair c.loop-name.pairs.items _
    c.in-Some.ensures.steps c.loop-name.invariant one c.in_ok-push.ensures.items
