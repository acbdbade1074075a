use Rattle.std.proofs.Common.{◌≡◌, ◌++◌, ◌-◌}
use Rattle.metrics_writer.specs.Numbers.{last_digits}
use Rattle.metrics_writer.proofs.numbers.append_last.Given as goal

abbrev pub invariant-loop-i : goal.invariant-loop-i
invariant-loop-i l =
    l.out.items ++ last_digits (l.digits - l.i) l.n
    ≡ l.fn.out.items ++ last_digits l.digits l.n
