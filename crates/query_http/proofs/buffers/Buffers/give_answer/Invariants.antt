use Rattle.std.proofs.Common.{◌≡◌}
use Rattle.query_http.specs.Bounds.{IsBounded}
use Rattle.query_http.proofs.buffers.Buffers.give_answer.Given as goal

abbrev pub invariant-loop-piece : goal.invariant-loop-piece
invariant-loop-piece l =
    (IsBounded l.fn.self → IsBounded l.self) × (l.self.note ≡ l.fn.self.note)
    × (l.self.room ≡ l.fn.self.room)
