use Rattle.std.proofs.Common.{◌≡◌, ◌+◌, drop}
use Rattle.decimal_text.specs.Reading.{digits_in_front}
use Rattle.decimal_text.proofs.number.digits_in_front.Given as goal

abbrev pub invariant-loop-c : goal.invariant-loop-c
invariant-loop-c l = record {
  same : l.n ≡ l.c-index;
  so_far : l.n + digits_in_front (drop l.c-index l.text) ≡ digits_in_front l.text;
}
