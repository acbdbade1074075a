-- What the bytes read so far show of a head.
use Rattle.std.proofs.Common.{ℕ, ◌≤◌, List, [], length, sym, append-nil}
use Rattle.httparse.specs.Spans.{RequestOverflows}
use Rattle.waiting_room.specs.Framing.{IsBadHead}

pub bad_from_never : (bytes : List ℕ) → length bytes ≤ 8192 → RequestOverflows 64 bytes
    → IsBadHead bytes
bad_from_never bytes fits over = (bytes, ([], sym (append-nil bytes)), fits, over)
