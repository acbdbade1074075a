use Rattle.std.proofs.Common.{◌≡◌, ◌+◌, ◌-◌, ◌++◌, drop, ap, arith, to_z-of_z}
use Rattle.std.proofs.lemmas.Fmt.{length-decimal-le}
use Rattle.std.proofs.lemmas.List.{drop-set}
use Rattle.itoa.proofs.Decimal.{minus_first}
use Rattle.answers.proofs.number.place_integer.Goals as goal

pub write_digits-start-requires : goal.write_digits-start-requires
write_digits-start-requires c = (
  omega (
    arith,
    length-decimal-le 19 c.unsigned_abs.result (omega arith) (omega arith) (omega arith),
  ),
  c.requires.within,
)

pub returns-then-n-ge0-clause-near : goal.returns-then-n-ge0-clause-near
returns-then-n-ge0-clause-near c = omega (
  arith,
  length-decimal-le 19 c.unsigned_abs.result (omega arith) (omega arith) (omega arith),
)

pub overflow_sub-buf : goal.overflow_sub-buf
overflow_sub-buf c = omega (
  arith,
  length-decimal-le 19 c.unsigned_abs.result (omega arith) (omega arith) (omega arith),
)

pub overflow_sub-result : goal.overflow_sub-result
overflow_sub-result c = omega (
  arith,
  length-decimal-le 19 c.unsigned_abs.result (omega arith) (omega arith) (omega arith),
)

pub returns-clause-near : goal.returns-clause-near
returns-clause-near c = omega (
  arith,
  length-decimal-le 19 c.unsigned_abs.result (omega arith) (omega arith) (omega arith),
)

pub returns-clause-written : goal.returns-clause-written
returns-clause-written c =
    let w = c.write_digits-start in
    let long =
    length-decimal-le 19 c.unsigned_abs.result (omega arith) (omega arith) (omega arith) in
    let e : w.result - 1 + 1 ≡ w.result = omega arith in
    let back = to_z-of_z c.ranges.n in
    rw (
      drop-set w.new.buf (w.result - 1) 45 (omega arith),
      e,
      w.ensures.written,
      c.unsigned_abs.ensures.value,
      back,
    )
    (ap (λ s. s ++ drop c.args.end c.args.buf.now)
    (minus_first c.args.n (rw back at c.if-n-ge0.false)))
