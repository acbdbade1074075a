use Rattle.matchers.proofs.Makings.{AreMadeWithin-push, next_named, one_more, one_made}
use Rattle.matchers.proofs.selector.matchers.Goals as goal

pub loop-part-preserved : goal.loop-part-preserved
loop-part-preserved c =
    let inv = c.loop-part.invariant in (
      one_made _ _ _ _ _ c.in_ok-push.ensures.items inv.0 c.in_ok-into_matcher.ensures.ok,
      AreMadeWithin-push _ _ _ inv.1 c.in_ok-into_matcher.ensures.made,
      one_more _ _ _ _ _ inv.2 c.in-Some.ensures.steps.0,
    )

pub into_matcher-requires : goal.into_matcher-requires
into_matcher-requires c = next_named _ _ _ _ _ c.loop-part.invariant.2 c.in-Some.ensures.steps.0 c.requires
