use Rattle.std.proofs.Common.{◌≡◌, take}
use Rattle.whole_audit.proofs.looks.judges_of.Given as goal

abbrev pub invariant-loop-matcher : goal.invariant-loop-matcher
invariant-loop-matcher l = l.judges.items ≡ take l.matcher-index l.matchers
