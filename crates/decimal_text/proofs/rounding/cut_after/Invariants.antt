use Rattle.std.proofs.Common.{◌≡◌, ◌≤◌, drop}
use Rattle.decimal_text.specs.Tenths.{cut_after, limit}
use Rattle.decimal_text.proofs.rounding.cut_after.Given as goal

abbrev pub invariant-loop-c : goal.invariant-loop-c
invariant-loop-c l = record {
  small : l.cut.tenths ≤ limit;
  so_far : cut_after l.cut (drop l.c-index l.digits) ≡ cut_after l.fn.before l.digits;
}
