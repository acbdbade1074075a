use Rattle.std.proofs.Common.{◌≡◌, take}
use Rattle.time_cuts.specs.Parts.{IsWithin}
use Rattle.time_cuts.proofs.Sums.{AreSums}
use Rattle.time_cuts.proofs.cutting.fitting.Given as goal

abbrev pub invariant-loop-slot : goal.invariant-loop-slot
invariant-loop-slot l = record {
  here : l.count ≡ l.slot-index;
  sums : AreSums l.slots l.slot-index l.samples l.series;
  within : IsWithin l.limits (take l.count l.slots);
}
