use Rattle.std.proofs.Common.{◌≡◌, ◌≤◌, ◌-◌}
use Rattle.decimal_text.specs.Tenths.{limit, padded}
use Rattle.decimal_text.proofs.rounding.padded.Given as goal

abbrev pub invariant-loop : goal.invariant-loop
invariant-loop l = record {
  small : l.n ≤ limit;
  so_far : padded (l.zeros - l.counter) l.n ≡ padded l.zeros l.tenths;
}
