use Rattle.std.proofs.Common.{rules, SFits, w64, to_z, of_z}
use Rattle.std.proofs.lemmas.Int.{to_z-of_z}
use Rattle.remote_write.specs.Reading.{series_seen}
use Rattle.remote_requests.proofs.RowTurns.{row_left}
use Rattle.remote_requests.proofs.series.row_of.Goals as goal

pub returns-clause-left : goal.returns-clause-left
returns-clause-left c =
    let fits : SFits w64 c.args.now = search rules in
    row_left (to_z w64 (of_z w64 c.args.now)) c.args.now (series_seen c.args.series.now)
    c.args.left.now c.sample_row.new.left c.add.new.self (to_z-of_z w64 _ fits)
    c.in_ok-row.ensures.left c.add.ensures
