use Rattle.std.proofs.Common.{◌∙◌, ◌++◌, ap}
use Rattle.journal.specs.declared.error.JournalError.TheVariants.{Closed}
use Rattle.journal.specs.declared.journal.Journal.{Journal}
use Rattle.event_journal.proofs.Kept.{any_moment, holds_more, holds_on, in_flight, on_err, on_ok}
use Rattle.event_journal.proofs.Kept.{spelled_next, was_open}
use Rattle.event_journal.proofs.keep.EventJournal.append.Goals as goal

pub append_records-requires-clause-journal : goal.append_records-requires-clause-journal
append_records-requires-clause-journal g c is_open =
    let h = c.requires.held in (h.0 ++ h.3.contents, h.3.keeps is_open)

pub append_records-requires-clause-records : goal.append_records-requires-clause-records
append_records-requires-clause-records g c =
    let s = c.requires.spelled.3 in (s.contents, s.are)

pub returns-clause-any_moment : goal.returns-clause-any_moment
returns-clause-any_moment g c front names after events more h s opened =
    let m = g.M.Medium in
    let j = c.args.self.now.journal in
    let n = c.append_records.new.self in
    in_flight m.shows m.kept m.sound m.moment m.left_since g.met.M.Medium.only_now
    g.met.M.Medium.earlier front s.contents j.medium n.medium j.len j.closed names after events
    more opened h s.spell
    (c.append_records.ensures.any_moment (front ++ h.contents) s.contents (h.keeps opened) s.are)

pub returns-clause-ok : goal.returns-clause-ok
returns-clause-ok g c =
    let m = g.M.Medium in
    let j = c.args.self.now.journal in
    let n = c.append_records.new.self in
    on_ok c.append_records.result _ _ (λ x done ok front names after events more h s.
    let opened = was_open j.closed c.append_records.result x Closed done
    (λ t. (c.append_records.ensures.closed t).0) in
    holds_more m.shows m.kept m.sound m.moment m.left_since g.met.M.Medium.only_now
    g.met.M.Medium.earlier front h.contents s.contents n.medium n.len n.closed h.after after events
    more h.before h.spell
    (spelled_next m.shows m.kept m.sound m.moment m.left_since g.met.M.Medium.only_now
    g.met.M.Medium.earlier front s.contents j.medium j.len j.closed names after events more opened
    h s.spell)
    (ok (front ++ h.contents) s.contents (h.keeps opened) s.are))
    c.append_records.ensures.ok

pub returns-clause-err : goal.returns-clause-err
returns-clause-err g c =
    let m = g.M.Medium in
    let j = c.args.self.now.journal in
    let n = c.append_records.new.self in
    on_err c.append_records.result _ _ (λ e front names after events more h s.
    holds_on m.shows m.kept m.sound m.moment m.left_since g.met.M.Medium.only_now
    g.met.M.Medium.earlier front j.medium n.medium j.len n.len j.closed n.closed names events h
    (λ t. ap (λ (x : Journal g.row.M.Denot). x.closed) (c.append_records.ensures.closed t).1 ∙ t)
    (λ k f. e (front ++ h.contents) k f)
    (any_moment m.shows m.kept m.sound m.moment m.left_since g.met.M.Medium.only_now
    g.met.M.Medium.earlier front j.medium n.medium j.len j.closed names events more h
    (λ t. ap (λ (x : Journal g.row.M.Denot). x.medium) (c.append_records.ensures.closed t).1)
    (λ opened. returns-clause-any_moment g c front names after events more h s opened)))
    c.append_records.ensures.err

pub returns-clause-closed : goal.returns-clause-closed
returns-clause-closed g c t =
    let k = c.append_records.ensures.closed t in
    (k.0, ap (λ (x : Journal g.row.M.Denot). record (c.args.self.now) { journal = x }) k.1)
