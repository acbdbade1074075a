use Rattle.std.proofs.Common.{Ok, sym, ap, subst, ◌∙◌, arith}
use Rattle.std.proofs.lemmas.Result.{err_from_is_err_and}
use Rattle.labels.specs.Parts.{Part, IsPart}
use Rattle.block_walk.specs.BlockFiles.Spelled.{IsWalked}
use Rattle.block_walk.proofs.BlockFiles.Found.{walk_spelled}
use Rattle.block_walk.proofs.BlockFiles.Parts.{references_rise, is_part}
use Rattle.block_walk.proofs.BlockFiles.Refusals.{walk_fails_index, walk_fails_chunks, walk_fails_stored, walk_fails_deleted, walk_gives}
use Rattle.block_walk.proofs.walk.walk_table.Goals as goal

pub returns-in_err-entries-clause-exact : goal.returns-in_err-entries-clause-exact
returns-in_err-entries-clause-exact g c =
    let p = err_from_is_err_and c.from_residual.result c.from_residual.ensures.1 in
    rw (p.1, p.2) (walk_fails_index c.args.index.now c.args.chunks.items c.args.tombstones.now
    c.in_err-entries.field-0.0 c.in_err-entries.ensures.exact)

pub returns-in_err-chunks-clause-exact : goal.returns-in_err-chunks-clause-exact
returns-in_err-chunks-clause-exact g c =
    let p =
    err_from_is_err_and c.from_residual-in_err-chunks.result
    c.from_residual-in_err-chunks.ensures.1 in
    rw (p.1, p.2) (walk_fails_chunks c.args.index.now c.args.chunks.items c.args.tombstones.now
    c.in_ok-entries.entries c.in_err-chunks.field-0.0 c.in_ok-entries.ensures.exact
    c.in_err-chunks.ensures.exact)

pub returns-in_err-check_stored-clause-exact : goal.returns-in_err-check_stored-clause-exact
returns-in_err-check_stored-clause-exact g c =
    let p =
    err_from_is_err_and c.from_residual-in_err-check_stored.result
    c.from_residual-in_err-check_stored.ensures.1 in
    rw (p.1, p.2) (walk_fails_stored c.args.index.now c.args.chunks.items c.args.tombstones.now
    c.in_ok-entries.entries c.in_ok-chunks.chunks c.in_err-check_stored.field-0.0
    c.in_ok-entries.ensures.exact c.in_ok-chunks.ensures.exact
    c.in_err-check_stored.ensures.exact)

pub known_deletions-requires : goal.known_deletions-requires
known_deletions-requires g c =
    references_rise c.args.index.now c.in_ok-entries.entries c.in_ok-entries.ensures.found

pub returns-in_err-deletions-clause-exact : goal.returns-in_err-deletions-clause-exact
returns-in_err-deletions-clause-exact g c =
    let p =
    err_from_is_err_and c.from_residual-in_err-deletions.result
    c.from_residual-in_err-deletions.ensures.1 in
    rw (p.1, p.2) (walk_fails_deleted c.args.index.now c.args.chunks.items c.args.tombstones.now
    c.in_ok-entries.entries c.in_ok-chunks.chunks c.in_err-deletions.field-0.0
    c.in_ok-entries.ensures.exact c.in_ok-chunks.ensures.exact
    c.in_ok-check_stored.ensures.exact c.in_err-deletions.ensures)

pub of_series-requires : goal.of_series-requires
of_series-requires g c =
    subst IsPart (sym c.in_ok-rows.ensures)
    (is_part c.args.index.now c.in_ok-chunks.chunks c.in_ok-entries.entries
    c.in_ok-deletions.deletions c.in_ok-entries.ensures.found c.in_ok-check_stored.ensures.held)

pub returns-clause-exact : goal.returns-clause-exact
returns-clause-exact g c =
    let x = c.in_ok-deletions.ensures in
    let e = walk_gives c.args.index.now c.args.chunks.items c.args.tombstones.now
    c.in_ok-entries.entries c.in_ok-chunks.chunks x.0 c.in_ok-deletions.deletions
    c.in_ok-entries.ensures.exact c.in_ok-chunks.ensures.exact
    c.in_ok-check_stored.ensures.exact x.1 x.2 in
    e ∙ ap (λ (p : Part). Ok p) (sym c.in_ok-rows.ensures ∙ sym c.of_series.ensures)

pub returns-clause-found : goal.returns-clause-found
returns-clause-found g c =
    let x = c.in_ok-deletions.ensures in
    let spelled = walk_spelled c.args.index.now c.args.chunks.items c.args.tombstones.now
    c.in_ok-entries.entries c.in_ok-chunks.chunks x.0 c.in_ok-deletions.deletions (λ i.
    omega (arith, c.type_inv.tombstones i))
    c.in_ok-entries.ensures.found c.in_ok-chunks.ensures.exact c.in_ok-chunks.ensures.found
    c.in_ok-check_stored.ensures.held c.in_ok-check_stored.ensures.few x.1 x.2 in
    subst (IsWalked c.args.index.now c.args.chunks.items c.args.tombstones.now)
    (sym c.in_ok-rows.ensures ∙ sym c.of_series.ensures) spelled
