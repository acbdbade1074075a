use Rattle.std.proofs.Common.{rules, refl, SFits, w64, to_z, of_z}
use Rattle.std.proofs.lemmas.Int.{to_z-of_z}
use Rattle.remote_requests.proofs.RowTurns.{some_turn, none_turn, all_received}
use Rattle.remote_requests.proofs.series.received.Goals as goal
use Rattle.remote_requests.proofs.series.received.Goals.{in-Some+in_ok-push, in_default}

pub loop-series-preserved : goal.loop-series-preserved
loop-series-preserved c =
    elim c.match-branch-2.branch [
      | in-Some+in_ok-push w ↦
          some_turn (to_z w64 (of_z w64 c.args.now)) c.args.all.now c.loop-series.series-index
          c.series-item.result _ c.loop-series.rows.items c.match-branch-2.rows.items
          c.none-left.result c.loop-series.left c.row_of.new.left c.in_ok-row.field-0
          w.in-Some.row c.loop-series-test.true c.series-item.is c.loop-series.invariant
          c.in_ok-row.ensures.row w.in-Some.is (rw w.rows-is w.in_ok-push.ensures.items)
          c.in_ok-row.ensures.left
      | in_default w ↦
          none_turn (to_z w64 (of_z w64 c.args.now)) c.args.all.now c.loop-series.series-index
          c.series-item.result _ c.loop-series.rows.items c.match-branch-2.rows.items
          c.none-left.result c.loop-series.left c.row_of.new.left c.in_ok-row.field-0
          c.loop-series-test.true c.series-item.is c.loop-series.invariant
          c.in_ok-row.ensures.row w.in_default.is (rw w.rows-is refl) c.in_ok-row.ensures.left
    ]

pub returns : goal.returns
returns c =
    let fits : SFits w64 c.args.now = search rules in
    all_received (to_z w64 (of_z w64 c.args.now)) c.args.now c.args.all.now
    c.loop-series.series-index _ c.none-left.result (to_z-of_z w64 _ fits)
    c.loop-series-test.false c.requires.few c.requires.of c.none-left.ensures
    c.loop-series.invariant
