use Rattle.std.proofs.Common.{rules, arith}
use Rattle.std.proofs.lemmas.Fmt.{length-decimal-le}
use Rattle.server_metrics.proofs.numbers.append_number.Goals as goal

pub write_digits-start-requires : goal.write_digits-start-requires
write_digits-start-requires c = (
  omega (arith, length-decimal-le 20 c.args.n (omega arith) (omega arith) c.ranges.n.fits),
  search rules,
)
