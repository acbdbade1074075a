use Rattle.std.proofs.Common.{◌+◌, ◌<◌, ◌≤◌, ℕ, Option, length, refl, subst, sym, arith}
use Rattle.std.proofs.lemmas.Option.{slice_get_read}
use Rattle.logged_folder.specs.Logged.{IsAtAmong}
use Rattle.logged_folder.proofs.Logs.{at_end, one_on}
use Rattle.logged_folder.proofs.last_of.Goals as goal

pub loop-i-preserved : goal.loop-i-preserved
loop-i-preserved c =
    let log = c.args.log.now in
    let i = c.loop-i.i in
    let e = c.index-log-i.result in
    let lt : i < length log = omega (arith, c.loop-i-test.true) in
    subst (λ (r : Option ℕ). IsAtAmong log c.args.name.now (i + 1) r) (sym c.later-found.ensures)
    (one_on log c.args.name.now i e c.loop-i.found
    (slice_get_read log (length log) i e refl lt c.index-log-i.is) c.loop-i.invariant)

pub returns : goal.returns
returns c =
    let past : length c.args.log.now ≤ c.loop-i.i = omega (arith, c.loop-i-test.false) in
    at_end c.args.log.now c.args.name.now c.loop-i.i c.loop-i.found past c.loop-i.invariant
