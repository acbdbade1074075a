use Rattle.answers.proofs.Headlines.{headline}
use Rattle.answers.proofs.headline.ask_by.Goals as goal

pub returns-clause-headline : goal.returns-clause-headline
returns-clause-headline g c = headline g.J.Naming.opening c.args.query.now _ _ _ _
    c.snapshot.ensures.seen c.in_ok-snapshot.ensures.told c.in_ok-snapshot.ensures.world
    (rw c.deref.ensures at c.in_ok-answer_in_turn.ensures.rows) (rw c.deref.ensures at
    c.in_ok-answer_in_turn.ensures.whole) (rw c.deref.ensures at c.in_ok-answer_in_turn.ensures.each)
