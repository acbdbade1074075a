use Rattle.std.proofs.Common.{sym, ◌∙◌}
use Rattle.commands.proofs.Demos.{demo_answered}
use Rattle.commands.proofs.demo.answer_told.Goals as goal

pub returns-then-events-eq2-2-clause-ok : goal.returns-then-events-eq2-2-clause-ok
returns-then-events-eq2-2-clause-ok g c =
    demo_answered g.J.Naming.opening c.args.query.now _ _ _ c.requires.opening
    c.in_ok-answer.ensures.headline _ _ _ c.requires.first c.requires.second
    c.learn.ensures.receipt c.learn-2.ensures.told c.learn-2.ensures.receipt
    (sym c.events.ensures ∙ c.if-events-eq1.true) (sym c.events-then-events-eq1.ensures
    ∙ c.if-events-eq2.true)
    (sym c.events-then-events-eq2.ensures ∙ c.if-events-eq2-2.true)
