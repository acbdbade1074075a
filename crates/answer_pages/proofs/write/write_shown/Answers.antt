use Rattle.std.proofs.lemmas.Result.{IfOk-weaker}
use Rattle.answer_pages.proofs.write.write_shown.Goals as goal

pub returns : goal.returns
returns c =
    IfOk-weaker c.write_page.result _ _ (λ page h. record { shown = c.args.shown.now; shows = c.requires; page_is = h })
    c.write_page.ensures
