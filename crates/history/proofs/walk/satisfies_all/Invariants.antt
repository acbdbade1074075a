use Rattle.std.proofs.Common.{◌≡◌, true, take}
use Rattle.matchers.specs.Satisfies.{satisfies_all}
use Rattle.history.proofs.walk.satisfies_all.Given as goal

abbrev pub invariant-loop-matcher : goal.invariant-loop-matcher
invariant-loop-matcher l = satisfies_all (take l.matcher-index l.matchers) l.labels ≡ true
