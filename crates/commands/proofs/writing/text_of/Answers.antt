use Rattle.std.proofs.Common.{◌++◌, ap}
use Rattle.std.specs.Prelude.{codes}
use Rattle.std.proofs.lemmas.Result.{IfOk-weaker}
use Rattle.commands.proofs.writing.text_of.Goals as goal

pub returns : goal.returns
returns g c =
    IfOk-weaker c.answer_text.result _ _ (λ text is. ap (λ s. s ++ codes "\n") is)
    c.answer_text.ensures
