use Rattle.std.proofs.Common.{[], refl}
use Rattle.event_journal.proofs.Kept.{holds_open}
use Rattle.event_journal.proofs.keep.EventJournal.create.Goals as goal

pub returns-in-Ok-clause-holds : goal.returns-in-Ok-clause-holds
returns-in-Ok-clause-holds g c =
    let m = g.M.Medium in
    let j = c.in-Ok.journal in
    holds_open m.shows m.kept m.sound m.moment m.left_since g.met.M.Medium.only_now
    g.met.M.Medium.earlier [] [] j.medium j.len j.closed [] [] [] tt refl refl
    c.in-Ok.ensures.keeps
