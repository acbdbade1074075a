use Rattle.std.proofs.Common.{ap, ◌∙◌}
use Rattle.std.proofs.lemmas.Result.{IfOk-weaker}
use Rattle.answers.specs.Body.{json_list, row_data}
use Rattle.answers.proofs.Runs.{one_spelled}
use Rattle.answers.proofs.body_text.text_of_one.Goals as goal

pub returns : goal.returns
returns g c =
    IfOk-weaker c.told_twice.result _ _
    (λ text h. h ∙ one_spelled c.args.before.now c.args.later.now c.args.answer.now _ _ _
    c.in_ok-front.ensures
    (c.in_ok-rows.ensures ∙ ap (λ rows. json_list row_data rows) c.as_slice.ensures.value)
    c.in_ok-between.ensures)
    c.told_twice.ensures
