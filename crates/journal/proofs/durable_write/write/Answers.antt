use Rattle.std.proofs.Common.{length, sym, ◌∙◌}
use Rattle.journal.proofs.Fronts.{from_ok, from_err}
use Rattle.journal.proofs.Writes.{appended, synced_after, cut_after, taken_back}
use Rattle.journal.proofs.durable_write.write.Goals as goal

pub returns-then-is_ok-2-clause-any_moment : goal.returns-then-is_ok-2-clause-any_moment
returns-then-is_ok-2-clause-any_moment g c old h e =
    let m = g.M.Medium in
    let ok = from_ok c.append.result _ (sym c.is_ok.ensures.value
    ∙ c.if-is_ok.true) c.append.ensures.written in
    let first = appended m.shows m.kept m.sound m.moment m.left_since g.met.M.Medium.only_now c.args.medium.now c.append.new.self old c.args.len c.args.bytes.now h e c.append.ensures.time in
    synced_after m.shows m.kept m.sound m.moment m.left_since g.met.M.Medium.only_now c.args.medium.now c.append.new.self c.sync.new.self old c.args.len c.args.bytes.now h e (ok old h.all) (c.append.ensures.kept (length old) h.durable) first c.sync.ensures.time

pub returns-then-is_ok-clause-any_moment : goal.returns-then-is_ok-clause-any_moment
returns-then-is_ok-clause-any_moment g c old h e =
    let m = g.M.Medium in
    let ok = from_ok c.append.result _ (sym c.is_ok.ensures.value
    ∙ c.if-is_ok.true) c.append.ensures.written in
    let first = appended m.shows m.kept m.sound m.moment m.left_since g.met.M.Medium.only_now c.args.medium.now c.append.new.self old c.args.len c.args.bytes.now h e c.append.ensures.time in
    synced_after m.shows m.kept m.sound m.moment m.left_since g.met.M.Medium.only_now c.args.medium.now c.append.new.self c.sync.new.self old c.args.len c.args.bytes.now h e (ok old h.all) (c.append.ensures.kept (length old) h.durable) first c.sync.ensures.time

pub returns-then-is_ok-3-clause-done : goal.returns-then-is_ok-3-clause-done
returns-then-is_ok-3-clause-done g c old h e =
    let m = g.M.Medium in
    let bad = sym c.is_ok.ensures.value ∙ c.if-is_ok.false in
    let part = from_err c.append.result _ bad c.append.ensures.part old h.all in
    let done = sym c.is_ok-2.ensures.value ∙ c.if-is_ok-3.true in (
      taken_back m.shows m.kept m.sound m.moment m.left_since g.met.M.Medium.only_now c.cut.new.self old c.args.len part.0 c.args.bytes.now e
          (from_ok c.cut.result _ done c.cut.ensures.cut _ part.1) (from_ok c.cut.result _ done c.cut.ensures.durable) (from_ok c.cut.result _ done c.cut.ensures.sound),
      c.cut.ensures.lasting (from_err c.append.result _ bad c.append.ensures.failed),
    )

pub returns-then-is_ok-3-clause-any_moment : goal.returns-then-is_ok-3-clause-any_moment
returns-then-is_ok-3-clause-any_moment g c old h e =
    let m = g.M.Medium in
    let part = from_err c.append.result _ (sym c.is_ok.ensures.value
    ∙ c.if-is_ok.false) c.append.ensures.part old h.all in
    let first = appended m.shows m.kept m.sound m.moment m.left_since g.met.M.Medium.only_now c.args.medium.now c.append.new.self old c.args.len c.args.bytes.now h e c.append.ensures.time in
    cut_after m.shows m.kept m.sound m.moment m.left_since g.met.M.Medium.only_now c.args.medium.now c.append.new.self c.cut.new.self old c.args.len part.0 c.args.bytes.now h e part.1 (c.append.ensures.kept (length old) h.durable) first c.cut.ensures.time

pub returns-clause-any_moment : goal.returns-clause-any_moment
returns-clause-any_moment g c old h e =
    let m = g.M.Medium in
    let part = from_err c.append.result _ (sym c.is_ok.ensures.value
    ∙ c.if-is_ok.false) c.append.ensures.part old h.all in
    let first = appended m.shows m.kept m.sound m.moment m.left_since g.met.M.Medium.only_now c.args.medium.now c.append.new.self old c.args.len c.args.bytes.now h e c.append.ensures.time in
    cut_after m.shows m.kept m.sound m.moment m.left_since g.met.M.Medium.only_now c.args.medium.now c.append.new.self c.cut.new.self old c.args.len part.0 c.args.bytes.now h e part.1 (c.append.ensures.kept (length old) h.durable) first c.cut.ensures.time

pub returns-then-is_ok-2-clause-beside : goal.returns-then-is_ok-2-clause-beside
returns-then-is_ok-2-clause-beside g c =
    g.met.M.Medium.goes_on c.args.medium.now c.append.new.self c.sync.new.self
    c.append.ensures.beside c.sync.ensures.beside

pub returns-then-is_ok-clause-beside : goal.returns-then-is_ok-clause-beside
returns-then-is_ok-clause-beside g c =
    g.met.M.Medium.goes_on c.args.medium.now c.append.new.self c.sync.new.self
    c.append.ensures.beside c.sync.ensures.beside

pub returns-then-is_ok-3-clause-beside : goal.returns-then-is_ok-3-clause-beside
returns-then-is_ok-3-clause-beside g c =
    g.met.M.Medium.goes_on c.args.medium.now c.append.new.self c.cut.new.self
    c.append.ensures.beside c.cut.ensures.beside

pub returns-clause-beside : goal.returns-clause-beside
returns-clause-beside g c =
    g.met.M.Medium.goes_on c.args.medium.now c.append.new.self c.cut.new.self
    c.append.ensures.beside c.cut.ensures.beside
