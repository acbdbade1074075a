use Rattle.std.proofs.Common.{◌∷◌, [], ◌++◌, ℕ, List, Vec, Global, ap, ◌∙◌}
use Rattle.answers.specs.Body.{json_list, row_data}
use Rattle.answers.proofs.Runs.{searched_pieces}
use Rattle.answers.proofs.part_pieces.searched_in_pieces.Goals as goal

pub returns : goal.returns
returns g c =
    let back = c.in_ok-back_of.field-0 in
    searched_pieces c.args.first c.args.answer.now c.in_ok-front.front back
    c.in_ok-rows.rows.items c.push.new.self.items
    c.in_ok-front.ensures
    (c.in_ok-rows.ensures ∙ ap (λ rows. json_list row_data rows) c.as_slice.ensures.value)
    c.in_ok-back_of.ensures
    (c.in_ok-push.ensures.items
    ∙ ap (λ (ps : List (Vec ℕ Global)). ps ++ back ∷ []) c.in_ok-pieces.ensures)
