use Rattle.std.proofs.Common.{◌≡◌, ◌-◌, drop}
use Rattle.kept_world.specs.Sound.{rises}
use Rattle.kept_world.proofs.series.are_rising.Given as goal

abbrev pub invariant-loop-i : goal.invariant-loop-i
invariant-loop-i l = rises l.newest.0 (drop (l.i - 1) l.samples) ≡ rises l.newest.0 l.samples
