use Rattle.std.proofs.Common.{◌∙◌}
use Rattle.std.proofs.lemmas.Result.{IfOk-weaker}
use Rattle.answers.proofs.Runs.{run_is_list}
use Rattle.answers.proofs.pieces.rows_in_pieces.Goals as goal

pub returns-then-room_of_rows-ge-LONG : goal.returns-then-room_of_rows-ge-LONG
returns-then-room_of_rows-ge-LONG g c =
    IfOk-weaker c.runs_of.result _ _ (λ pieces h. h ∙ run_is_list c.args.rows.now)
    c.runs_of.ensures

pub returns-else-room_of_rows-ge-LONG : goal.returns-else-room_of_rows-ge-LONG
returns-else-room_of_rows-ge-LONG g c =
    IfOk-weaker c.run_of.result _ _ (λ pieces h. h ∙ run_is_list c.args.rows.now)
    c.run_of.ensures
