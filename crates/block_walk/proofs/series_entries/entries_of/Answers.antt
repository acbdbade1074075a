use Rattle.std.proofs.Common.{arith}
use Rattle.std.proofs.lemmas.Result.{err_from_is_err_and}
use Rattle.block_walk.specs.IndexFile.Kept.{read_seen}
use Rattle.block_walk.proofs.IndexFile.Facts.{is_index}
use Rattle.block_walk.proofs.IndexFile.Keeping.{is_kept, err_fails, exact_is}
use Rattle.block_walk.proofs.series_entries.entries_of.Goals as goal

pub returns-in_err-checked-clause-exact : goal.returns-in_err-checked-clause-exact
returns-in_err-checked-clause-exact c =
    let p = err_from_is_err_and c.from_residual.result c.from_residual.ensures.1 in
    rw (p.1, p.2)
    (err_fails c.args.file.now c.in_err-checked.field-0.0 c.in_err-checked.ensures.exact)

pub invariant_of-result : goal.invariant_of-result
invariant_of-result c =
    is_kept c.args.file.now c.in_ok-checked.checked c.in_ok-checked.ensures.held
    c.in_ok-checked.ensures.exact

pub returns-clause-exact : goal.returns-clause-exact
returns-clause-exact c =
    exact_is c.args.file.now c.in_ok-checked.checked c.in_ok-checked.ensures.exact

pub returns-clause-found : goal.returns-clause-found
returns-clause-found c = is_index c.args.file.now (read_seen c.in_ok-checked.checked) (λ i. omega (
  arith,
  c.type_inv.file i,
)) c.in_ok-checked.ensures.held.parts c.in_ok-checked.ensures.exact
