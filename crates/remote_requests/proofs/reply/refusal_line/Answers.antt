use Rattle.std.proofs.Common.{◌∙◌, ap}
use Rattle.std.proofs.lemmas.Result.{IfOk-weaker}
use Rattle.serde_json.specs.Written.{has_float, compact_text}
use Rattle.remote_requests.proofs.NoFloat.{no_float_in_refusal}
use Rattle.remote_requests.proofs.reply.refusal_line.Goals as goal

pub returns : goal.returns
returns c =
    let made = c.in_ok-refusal_value.ensures in
    IfOk-weaker c.to_vec.result _ _ (λ b h. h (ap has_float made ∙ no_float_in_refusal _ _ _)
    ∙ ap compact_text made) c.to_vec.ensures.text
