use Rattle.std.specs.Prelude.{◌≡◌, length}
use Rattle.server.proofs.receiving.receivers_of.Given as goal

abbrev pub invariant-loop-pass : goal.invariant-loop-pass
invariant-loop-pass g l = length l.receivers.items ≡ length l.yielded
