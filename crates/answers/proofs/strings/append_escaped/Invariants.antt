use Rattle.std.proofs.Common.{◌≡◌, ◌≤◌, ◌++◌, ◌-◌, length, drop}
use Rattle.json.specs.Print.{escape}
use Rattle.answers.proofs.strings.append_escaped.Given as goal

abbrev pub invariant-loop-out : goal.invariant-loop-out
invariant-loop-out l = record {
  within : l.at ≤ length l.text;
  written : l.out.items ++ (escape (drop l.at l.text) ++ l.close)
      ≡ l.fn.out.items ++ (escape l.text ++ l.close);
}

abbrev pub decreases-loop-out : goal.decreases-loop-out
decreases-loop-out l = length l.text - l.at
