use Rattle.std.proofs.Common.{◌∙◌, ap, map}
use Rattle.std.proofs.lemmas.Result.{IfOk-weaker}
use Rattle.serde_json.specs.Written.{has_float, compact_text}
use Rattle.remote_http.specs.Counting.{count_seen}
use Rattle.remote_http.proofs.NoFloat.{no_float_in_left}
use Rattle.remote_http.proofs.told.left_line.Goals as goal

pub returns : goal.returns
returns c =
    let made = c.in_ok-left_value.ensures in
    let none = no_float_in_left c.args.cause.now (map count_seen c.args.counts.now) c.args.total in
    IfOk-weaker c.to_vec.result _ _ (λ b h. h (ap has_float made ∙ none) ∙ ap compact_text made) c.to_vec.ensures.text
