use Rattle.event_journal.proofs.Kept.{given_up, giving_up}
use Rattle.event_journal.proofs.keep.EventJournal.close.Goals as goal

pub returns-clause-held : goal.returns-clause-held
returns-clause-held g c front names others events more h =
    let m = g.M.Medium in
    let j = c.args.self.now.journal in
    given_up m.shows m.kept m.sound m.moment m.left_since g.met.M.Medium.only_now
    g.met.M.Medium.earlier front j.medium j.len j.closed names others events more c.requires h

pub returns-clause-any_moment : goal.returns-clause-any_moment
returns-clause-any_moment g c front names events more h =
    let m = g.M.Medium in
    let j = c.args.self.now.journal in
    giving_up m.shows m.kept m.sound m.moment m.left_since g.met.M.Medium.only_now
    g.met.M.Medium.earlier front j.medium j.len j.closed names events more c.requires h

pub returns-clause-beside : goal.returns-clause-beside
returns-clause-beside g c = g.met.M.Medium.stays c.args.self.now.journal.medium
