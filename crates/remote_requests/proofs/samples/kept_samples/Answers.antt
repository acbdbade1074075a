use Rattle.std.proofs.Common.{rules, refl, sym, SFits, w64, to_z, of_z}
use Rattle.std.proofs.lemmas.Int.{to_z-of_z}
use Rattle.remote_requests.proofs.SampleTurns.{keep_turn, leave_turn, all_left}
use Rattle.remote_requests.proofs.samples.kept_samples.Goals as goal
use Rattle.remote_requests.proofs.samples.kept_samples.Goals.{in-None+in_ok-push-in-None, in-Some}

pub loop-sample-preserved : goal.loop-sample-preserved
loop-sample-preserved c =
    elim c.match-time_refused.branch [
      | in-None+in_ok-push-in-None w ↦
          keep_turn (to_z w64 (of_z w64 c.args.now)) c.args.samples.now c.loop-sample.sample-index
          _ _ c.loop-sample.found.items c.match-time_refused.found.items w.kept.result
          c.args.left.now c.loop-sample.left c.match-time_refused.left c.loop-sample-test.true refl
          c.loop-sample.invariant (sym w.in-None.ensures) w.kept.ensures
          (rw w.found-is w.in_ok-push-in-None.ensures.items) w.left-is
      | in-Some w ↦
          leave_turn (to_z w64 (of_z w64 c.args.now)) c.args.samples.now c.loop-sample.sample-index
          _ _ c.loop-sample.found.items c.match-time_refused.found.items w.in-Some.why
          c.args.left.now c.loop-sample.left w.add.new.self c.match-time_refused.left
          c.loop-sample-test.true refl c.loop-sample.invariant (sym w.in-Some.ensures)
          w.add.ensures (rw w.found-is refl) w.left-is
    ]

pub returns-clause-left : goal.returns-clause-left
returns-clause-left c =
    let fits : SFits w64 c.args.now = search rules in
    all_left (to_z w64 (of_z w64 c.args.now)) c.args.now c.args.samples.now
    c.loop-sample.sample-index c.loop-sample.found.items c.args.left.now c.loop-sample.left
    (to_z-of_z w64 _ fits) c.loop-sample-test.false c.loop-sample.invariant
