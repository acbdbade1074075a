use Rattle.std.proofs.Common.{◌≡◌, vec_len}
use Rattle.std.specs.List.{All}
use Rattle.snapshots.specs.Views.{nothing}
use Rattle.snapshots.proofs.store.passes_of.Given as goal

abbrev pub invariant-loop-i : goal.invariant-loop-i
invariant-loop-i g l = (vec_len l.passes ≡ l._i) × All (λ p. p ≡ nothing) l.passes.items
