use Rattle.std.proofs.Common.{◌++◌, refl, ap, append_assoc, ◌∙◌}
use Rattle.std.specs.Prelude.{codes}
use Rattle.answers.specs.Body.{json_list, row_data}
use Rattle.answers.proofs.Runs.{all_spelled}
use Rattle.answers.proofs.body_text.body.Goals as goal

pub returns : goal.returns
returns c =
    let front = c.in_ok-text.text.items in
    let rows = json_list row_data c.args.rows.now in
    c.in_ok-push.ensures.items
    ∙ ap (λ s. s ++ codes "}") c.in_ok-append_rows.ensures
    ∙ append_assoc front rows (codes "}")
    ∙ all_spelled c.args.parts.now c.args.rows.now front rows c.in_ok-text.ensures refl
