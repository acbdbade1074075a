use Rattle.std.proofs.Common.{◌≡◌, ◌++◌, ℕ, List, length}
use Rattle.time_cuts.specs.Parts.{AreParts}
use Rattle.time_cuts.specs.declared.slot.Slot.{Slot}
use Rattle.time_cuts.proofs.cutting.cut.Given as goal

abbrev pub invariant-loop-rest : goal.invariant-loop-rest
invariant-loop-rest l = record {
  goes_on : (more : List ℕ) → AreParts l.limits l.rest more
      → AreParts l.limits l.slots (l.counts.items ++ more);
  end : (before : List Slot) × (l.slots ≡ before ++ l.rest);
}

abbrev pub decreases-loop-rest : goal.decreases-loop-rest
decreases-loop-rest l = length l.rest
