use Rattle.std.proofs.Common.{◌++◌, length, refl}
use Rattle.journal.specs.Group.{HasSomeMore}
use Rattle.journal.specs.Media.{MayLeave}
use Rattle.journal.specs.Records.{file_of}
use Rattle.journal.proofs.Keeping.{keeps_some, none_more, some_more, untouched}
use Rattle.journal.proofs.Moments.{weaker}
use Rattle.journal.proofs.journal.Journal.append_records.Goals as goal

pub returns-in-Done-clause-ok : goal.returns-in-Done-clause-ok
returns-in-Done-clause-ok g c contents more k are =
    let m = g.M.Medium in
    keeps_some m.shows m.kept m.sound c.write.new.medium c.args.self.now.len
    (length c.args.records.now) contents more c.args.records.now are refl k.each k.counted
    (c.in-Done.ensures.done (file_of contents) k.has k.counted)

pub returns-in-Done-clause-journal : goal.returns-in-Done-clause-journal
returns-in-Done-clause-journal g c is_open =
    let k = c.requires.journal is_open in
    let r = c.requires.records in
    (k.0 ++ r.0, returns-in-Done-clause-ok g c k.0 r.0 k.1 r.1)

pub returns-in-Done-clause-any_moment : goal.returns-in-Done-clause-any_moment
returns-in-Done-clause-any_moment g c contents more k are =
    let m = g.M.Medium in
    let old = c.args.self.now in
    weaker m.moment m.left_since old.medium c.write.new.medium
    (MayLeave old.len (file_of contents ++ c.args.records.now)) (HasSomeMore contents more)
    (λ left l. some_more old.len contents more c.args.records.now left k.each are k.counted l)
    (c.in-Done.ensures.any_moment (file_of contents) k.has k.counted)

pub returns-in-TakenBack-clause-any_moment : goal.returns-in-TakenBack-clause-any_moment
returns-in-TakenBack-clause-any_moment g c contents more k are =
    let m = g.M.Medium in
    let old = c.args.self.now in
    weaker m.moment m.left_since old.medium c.write.new.medium
    (MayLeave old.len (file_of contents ++ c.args.records.now)) (HasSomeMore contents more)
    (λ left l. some_more old.len contents more c.args.records.now left k.each are k.counted l)
    (c.in-TakenBack.ensures.any_moment (file_of contents) k.has k.counted)

pub returns-in-Lost-clause-any_moment : goal.returns-in-Lost-clause-any_moment
returns-in-Lost-clause-any_moment g c contents more k are =
    let m = g.M.Medium in
    let old = c.args.self.now in
    weaker m.moment m.left_since old.medium c.write.new.medium
    (MayLeave old.len (file_of contents ++ c.args.records.now)) (HasSomeMore contents more)
    (λ left l. some_more old.len contents more c.args.records.now left k.each are k.counted l)
    (c.in-Lost.ensures.any_moment (file_of contents) k.has k.counted)

pub returns-then-self-clause-any_moment : goal.returns-then-self-clause-any_moment
returns-then-self-clause-any_moment g c contents more k are =
    let m = g.M.Medium in
    untouched m.shows m.kept m.sound m.moment m.left_since g.met.M.Medium.only_now
    c.args.self.now.medium c.args.self.now.len contents (HasSomeMore contents more)
    (λ left r. none_more contents more left r) k

pub returns-then-self-gt-MAX_LEN-clause-any_moment : goal.returns-then-self-gt-MAX_LEN-clause-any_moment
returns-then-self-gt-MAX_LEN-clause-any_moment g c contents more k are =
    let m = g.M.Medium in
    untouched m.shows m.kept m.sound m.moment m.left_since g.met.M.Medium.only_now
    c.args.self.now.medium c.args.self.now.len contents (HasSomeMore contents more)
    (λ left r. none_more contents more left r) k

pub returns-then-self-clause-beside : goal.returns-then-self-clause-beside
returns-then-self-clause-beside g c = g.met.M.Medium.stays c.args.self.now.medium

pub returns-then-self-gt-MAX_LEN-clause-beside : goal.returns-then-self-gt-MAX_LEN-clause-beside
returns-then-self-gt-MAX_LEN-clause-beside g c = g.met.M.Medium.stays c.args.self.now.medium
