use Rattle.std.proofs.Common.{◌≡◌, ◌<◌, ◌^◌, ◌-◌, []}
use Rattle.decimal_text.specs.Reading.{parts_at}
use Rattle.decimal_text.proofs.number.with_zeros.Given as goal

abbrev pub invariant-loop : goal.invariant-loop
invariant-loop l = record {
  small : l.m < 2 ^ 63;
  so_far : parts_at l.m (l.left - l.counter) [] ≡ parts_at l.n l.left [];
}
