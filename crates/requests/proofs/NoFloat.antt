-- No reply to a refused request has a float, so its text is known to the byte.
use Rattle.std.proofs.Common.{◌≡◌, ℕ, List, Option, None, Some, false, refl}
use Rattle.serde_json.specs.Written.{has_float}
use Rattle.requests.specs.Replies.{refusal_data}

pub no_float_in_refusal : (code : List ℕ) (cause : Option (List ℕ × Option ℕ))
    → has_float (refusal_data code cause) ≡ false
no_float_in_refusal code None = refl
no_float_in_refusal code (Some (cause, None)) = refl
no_float_in_refusal code (Some (cause, Some at)) = refl
