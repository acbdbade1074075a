use Rattle.std.proofs.Common.{◌≡◌, ◌++◌, map, take, drop}
use Rattle.matchers.specs.Satisfies.{satisfies_all}
use Rattle.kept_world.specs.States.{struck_series}
use Rattle.kept_world.proofs.head.strike_each.Given as goal

abbrev pub invariant-loop-one : goal.invariant-loop-one
invariant-loop-one l = record {
  struck : l.series
      ≡ map (struck_series (satisfies_all l.fn.choice.matchers) l.fn.choice.from l.fn.choice.to) (take l.one-index l.fn.series)
      ++ drop l.one-index l.fn.series;
  same : l.choice ≡ l.fn.choice;
}
