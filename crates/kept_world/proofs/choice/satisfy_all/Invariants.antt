use Rattle.std.proofs.Common.{◌≡◌, true, take}
use Rattle.matchers.specs.Satisfies.{satisfies_all}
use Rattle.kept_world.proofs.choice.satisfy_all.Given as goal

abbrev pub invariant-loop-judge : goal.invariant-loop-judge
invariant-loop-judge l = record {
  same : l.judges ≡ l.initial.judges;
  satisfied : satisfies_all (take l.judge-index l.initial.judges) l.labels ≡ true;
}
