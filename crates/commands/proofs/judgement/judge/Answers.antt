use Rattle.std.proofs.lemmas.Result.{IfOk-weaker}
use Rattle.commands.specs.Judging.{bytes_of}
use Rattle.commands.proofs.Judgements.{judged_refused, judged_sound}
use Rattle.commands.proofs.judgement.judge.Goals as goal

pub returns-in-Ok : goal.returns-in-Ok
returns-in-Ok g c =
    judged_sound (bytes_of c.args.files) c.in-Ok.block _ _ c.in-Ok.ensures.exact
    c.in-Ok.ensures.found c.series_count.ensures c.sample_count.ensures

pub returns-in-Err : goal.returns-in-Err
returns-in-Err g c =
    IfOk-weaker c.refusal_of.result _ _ (λ judgement h. judged_refused (bytes_of c.args.files)
    c.in-Err.error judgement h c.in-Err.ensures.exact c.in-Err.ensures.only) c.refusal_of.ensures
