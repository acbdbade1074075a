-- No line of a refusal has a float, so it is known to the byte.
use Rattle.std.proofs.Common.{◌≡◌, ℕ, List, Option, None, Some, false, refl}
use Rattle.serde_json.specs.Written.{has_float}
use Rattle.remote_requests.specs.Replies.{refusal_data}

pub no_float_in_refusal : (code : List ℕ) (cause error : Option (List ℕ))
    → has_float (refusal_data code cause error) ≡ false
no_float_in_refusal code None None = refl
no_float_in_refusal code None (Some error) = refl
no_float_in_refusal code (Some cause) None = refl
no_float_in_refusal code (Some cause) (Some error) = refl
