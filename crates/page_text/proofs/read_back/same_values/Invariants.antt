use Rattle.std.proofs.Common.{◌≡◌, take}
use Rattle.page_text.proofs.read_back.same_values.Given as goal

abbrev pub invariant-loop-at : goal.invariant-loop-at
invariant-loop-at l = take l.at l.a ≡ take l.at l.b
