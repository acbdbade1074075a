use Rattle.std.proofs.Common.{◌∙◌}
use Rattle.answers.proofs.Runs.{once_spelled, whole_of_new}
use Rattle.answers.proofs.told.told_once.Goals as goal

pub returns : goal.returns
returns c =
    whole_of_new c.new.result _ _ c.new.ensures.pieces c.new.ensures.again
    ∙ once_spelled _ c.args.rows.items c.args.text c.in_ok-pieces.ensures
