-- What the bytes read so far say of the input.
use Rattle.std.proofs.Common.{ℕ, ◌≤◌, List, length, Option, None, Some, IfSome, inr}
use Rattle.std.specs.Io.KnownBytes.{Consumes}
use Rattle.httparse.specs.Spans.{RequestOverflows}
use Rattle.requests.specs.Heads.{IsBadHead}

pub bad_from_never : (a b : Option (List ℕ)) (bytes : List ℕ) → Consumes a b bytes
    → length bytes ≤ 8192 → RequestOverflows 64 bytes → IfSome a IsBadHead
bad_from_never None b bytes p fits over = tt
bad_from_never (Some x) None bytes p fits over = absurd p
bad_from_never (Some x) (Some y) bytes p fits over = inr (bytes, (y, p), fits, over)
