use Rattle.std.proofs.Common.{◌∙◌}
use Rattle.std.proofs.lemmas.Result.{IfOk-weaker}
use Rattle.answers.proofs.Runs.{all_spelled}
use Rattle.answers.proofs.body_text.long_text_of_all.Goals as goal

pub returns : goal.returns
returns g c =
    IfOk-weaker c.told_behind.result _ _
    (λ text h. h ∙ all_spelled c.args.parts.now c.args.rows.now _ _
    c.in_ok-front.ensures c.in_ok-rows.ensures)
    c.told_behind.ensures
