use Rattle.std.proofs.Common.{◌≡◌, length, take}
use Rattle.head.specs.Removing.{head_less}
use Rattle.head.proofs.deletion.drop_each.Given as goal

-- the series of the references so far
abbrev pub invariant-loop-reference : goal.invariant-loop-reference
invariant-loop-reference l = record {
  same : l.series ≡ head_less (take l.reference-index l.references) l.from l.to 1 l.fn.series;
  count : length l.series ≡ length l.fn.series;
}
