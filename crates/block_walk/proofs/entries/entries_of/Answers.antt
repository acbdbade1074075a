use Rattle.std.proofs.Common.{◌≡◌, ◌++◌, ◌∷◌, [], ◌-◌, length, arith}
use Rattle.std.proofs.lemmas.Result.{err_from_is_err_and}
use Rattle.std.proofs.lemmas.List.{map_push}
use Rattle.block_walk.specs.IndexFile.Seen.{entry_seen, entries_seen}
use Rattle.block_walk.specs.IndexFile.Layout.{SeriesEntry}
use Rattle.block_walk.proofs.IndexFile.WalkLoops.{walk_on, walk_fails, walk_done, after_entry, with_places_nil}
use Rattle.block_walk.proofs.entries.entries_of.Goals as goal

pub loop-at-init : goal.loop-at-init
loop-at-init c = (
  length c.args.file.now,
  omega (arith, c.requires.within),
  rw c.new-entries.ensures.items (with_places_nil _),
)

pub returns-in_err-body : goal.returns-in_err-body
returns-in_err-body c =
    let p = err_from_is_err_and c.from_residual.result c.from_residual.ensures.1 in
    let l = c.loop-at in
    rw (p.1, p.2)
    (walk_fails c.in_err-body.field-0.0 l.invariant.0 (entries_seen l.entries.items) c.args.file.now
    c.args.end l.at _ c.loop-at-test.true l.invariant.1 c.in_err-body.ensures l.invariant.2)

pub overflow_sub-stop : goal.overflow_sub-stop
overflow_sub-stop c =
    let l = c.loop-at in
    let a =
    after_entry c.args.file.now c.args.end l.at (c.in_ok-body.body.now, c.in_ok-body.after.now)
    c.loop-at-test.true c.requires.within c.in_ok-body.ensures in
    omega (arith, a.0)

pub loop-at-smaller : goal.loop-at-smaller
loop-at-smaller c =
    let l = c.loop-at in
    let a =
    after_entry c.args.file.now c.args.end l.at (c.in_ok-body.body.now, c.in_ok-body.after.now)
    c.loop-at-test.true c.requires.within c.in_ok-body.ensures in
    omega (arith, a.1)

pub loop-at-preserved : goal.loop-at-preserved
loop-at-preserved c =
    let l = c.loop-at in
    let a =
    after_entry c.args.file.now c.args.end l.at (c.in_ok-body.body.now, c.in_ok-body.after.now)
    c.loop-at-test.true c.requires.within c.in_ok-body.ensures in
    let p : SeriesEntry = record {
      offset = l.at;
      body = c.in_ok-body.body.now;
      end = c.args.end - length c.in_ok-body.after.now;
    } in
    let w =
    walk_on l.invariant.0 (entries_seen l.entries.items) c.args.file.now c.args.end l.at
    c.in_ok-body.body.now c.in_ok-body.after.now _ c.loop-at-test.true l.invariant.1
    c.in_ok-body.ensures l.invariant.2 in
    let e : entries_seen c.push.new.self.items ≡ entries_seen l.entries.items ++ p ∷ [] =
    rw c.in_ok-push.ensures.items (map_push entry_seen l.entries.items _) in
    (w.0, omega (arith, a.1, w.1), rw e w.2)

pub returns : goal.returns
returns c =
    let l = c.loop-at in
    walk_done l.invariant.0 (entries_seen l.entries.items) c.args.file.now c.args.end l.at _
    c.loop-at-test.false l.invariant.2
