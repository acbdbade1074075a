use Rattle.std.specs.Prelude.{◌≡◌, true, is_some, length}
use Rattle.std.specs.List.{All}
use Rattle.server.proofs.sharing.share_room.Given as goal

abbrev pub invariant-loop-place : goal.invariant-loop-place
invariant-loop-place g l =
    (length l.shared.items ≡ length l.yielded)
    × All (λ p. is_some p.holder ≡ true) l.shared.items
