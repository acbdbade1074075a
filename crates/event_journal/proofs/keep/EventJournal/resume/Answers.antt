use Rattle.std.proofs.Common.{◌++◌, ℕ, List, false}
use Rattle.journal.specs.Records.{Recovers}
use Rattle.journal.proofs.Moments.{weaker}
use Rattle.event_journal.specs.Holding.{Stands}
use Rattle.event_journal.proofs.Kept.{holds_open}
use Rattle.event_journal.proofs.keep.EventJournal.resume.Goals as goal

pub cut_end-requires : goal.cut_end-requires
cut_end-requires g c =
    let r = c.requires in (
      r.0 ++ r.3.stands.contents,
      r.3.file,
      r.3.stands.recovers,
      r.3.has,
      r.3.counted,
    )

pub returns-in-Ok-clause-holds : goal.returns-in-Ok-clause-holds
returns-in-Ok-clause-holds g c front names events h =
    let m = g.M.Medium in
    let s = h.stands in
    holds_open m.shows m.kept m.sound m.moment m.left_since g.met.M.Medium.only_now
    g.met.M.Medium.earlier front s.contents c.cut_end.new.medium c.args.len false names s.names
    events s.before s.spell h.named
    (c.in-Ok.ensures.ok (front ++ s.contents) h.file s.recovers h.has h.counted)

pub returns-in-Ok-clause-any_moment : goal.returns-in-Ok-clause-any_moment
returns-in-Ok-clause-any_moment g c front names events h =
    let m = g.M.Medium in
    let s = h.stands in
    weaker m.moment m.left_since c.args.medium c.cut_end.new.medium
    (λ (left : List ℕ). Recovers left (front ++ s.contents))
    (λ (left : List ℕ). Stands front left events)
    (λ left r. record {
      before = s.before;
      contents = s.contents;
      names = s.names;
      spell = s.spell;
      recovers = r;
    })
    (c.in-Ok.ensures.any_moment (front ++ s.contents) h.file s.recovers h.has h.counted)

pub returns-in-Err-clause-any_moment : goal.returns-in-Err-clause-any_moment
returns-in-Err-clause-any_moment g c front names events h =
    let m = g.M.Medium in
    let s = h.stands in
    weaker m.moment m.left_since c.args.medium c.cut_end.new.medium
    (λ (left : List ℕ). Recovers left (front ++ s.contents))
    (λ (left : List ℕ). Stands front left events)
    (λ left r. record {
      before = s.before;
      contents = s.contents;
      names = s.names;
      spell = s.spell;
      recovers = r;
    })
    (c.in-Err.ensures.any_moment (front ++ s.contents) h.file s.recovers h.has h.counted)
