use Rattle.std.proofs.Common.{◌++◌, ℕ, List, ◌∷◌, [], Vec, Global, ap, ◌∙◌, length, arith}
use Rattle.answers.proofs.Runs.{twice_spelled, whole_of_new}
use Rattle.answers.proofs.told.told_twice.Goals as goal

pub returns : goal.returns
returns c =
    whole_of_new c.new.result _ _ c.new.ensures.pieces c.new.ensures.again
    ∙ twice_spelled _ c.args.rows.items c.args.text c.args.between c.len-until.result
    (c.in_ok-push.ensures.items
    ∙ ap (λ (ps : List (Vec ℕ Global)). ps ++ c.args.between ∷ []) c.in_ok-pieces.ensures)
    (omega (arith, c.len-until.ensures, ap length c.in_ok-pieces.ensures))
