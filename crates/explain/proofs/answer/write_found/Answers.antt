use Rattle.std.proofs.lemmas.Result.{IfOk-weaker}
use Rattle.explain.proofs.answer.write_found.Goals as goal

pub returns : goal.returns
returns c =
    IfOk-weaker c.write_shown.result _ _ (λ page h. record { shown = c.args.shown.now; shows = c.requires; page_is = h }) c.write_shown.ensures
