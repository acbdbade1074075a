use Rattle.std.proofs.Common.{arith}
use Rattle.index_reader.proofs.Held.{is_read, is_spelled}
use Rattle.index_reader.proofs.checks.check.Goals as goal

pub returns-clause-read : goal.returns-clause-read
returns-clause-read g c =
    is_read c.args.file.now c.check_all.result c.check_all.ensures.exact c.check_all.ensures.held

pub returns-clause-spelled : goal.returns-clause-spelled
returns-clause-spelled g c = is_spelled c.args.file.now c.check_all.result (λ i. omega (
  arith,
  c.type_inv.file i,
)) c.check_all.ensures.exact c.check_all.ensures.held
