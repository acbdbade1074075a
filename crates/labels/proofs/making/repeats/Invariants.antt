use Rattle.std.proofs.Common.{◌≡◌, ◌+◌, ◌<◌, ℕ, List, false, get_or}
use Rattle.std.specs.Str.{bytes_eq}
use Rattle.labels.specs.Pairs.{pairs_of}
use Rattle.labels.proofs.making.repeats.Given as goal

abbrev pub invariant-loop-at : goal.invariant-loop-at
invariant-loop-at l = (k : ℕ) (d : List ℕ × List ℕ) → k + 1 < l.at → bytes_eq (get_or (pairs_of l.pairs) k d).0 (get_or (pairs_of l.pairs) (k + 1) d).0 ≡ false
