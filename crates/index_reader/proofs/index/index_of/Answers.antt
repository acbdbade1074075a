use Rattle.std.proofs.Common.{subst}
use Rattle.std.proofs.lemmas.Result.{err_from_is_err_and}
use Rattle.index_reader.specs.Indexes.{IsConsistent}
use Rattle.index_reader.specs.Spelled.{IsIndex}
use Rattle.index_reader.proofs.Held.{err_fails, exact_is, keys_inside, lists_whole, whole_is}
use Rattle.index_reader.proofs.Held.{is_kept}
use Rattle.index_reader.proofs.index.index_of.Goals as goal

pub returns-in_err-_layout-clause-exact : goal.returns-in_err-_layout-clause-exact
returns-in_err-_layout-clause-exact g c =
    let p = err_from_is_err_and c.from_residual.result c.from_residual.ensures.1 in
    rw (p.1, p.2)
    (err_fails c.args.file.now c.in_err-_layout.field-0.0 c.in_err-_layout.ensures.exact)

pub copy_lists-requires : goal.copy_lists-requires
copy_lists-requires g c =
    rw c.deref.ensures.value (lists_whole c.in_ok-_layout.field-0 c.in_ok-_layout.ensures.read)

pub returns-clause-exact : goal.returns-clause-exact
returns-clause-exact g c =
    let k = c.in_ok-_layout in
    exact_is c.args.file.now k.field-0 _ k.ensures.exact (whole_is c.args.file.now k.field-0
    c.flat_parts-labels.result.0.items c.flat_parts-labels.result.1.items
    c.flat_parts-labels.result.2.items k.ensures.held c.flat_parts-labels.ensures.labels
    c.flat_parts-labels.ensures.chunks c.flat_parts-labels.ensures.series)

pub returns-clause-found : goal.returns-clause-found
returns-clause-found g c =
    let k = c.in_ok-_layout in
    subst (IsIndex c.args.file.now) (whole_is c.args.file.now k.field-0
    c.flat_parts-labels.result.0.items c.flat_parts-labels.result.1.items
    c.flat_parts-labels.result.2.items k.ensures.held c.flat_parts-labels.ensures.labels
    c.flat_parts-labels.ensures.chunks c.flat_parts-labels.ensures.series)
    k.ensures.spelled

pub returns-clause-consistent : goal.returns-clause-consistent
returns-clause-consistent g c =
    let k = c.in_ok-_layout in
    subst IsConsistent (whole_is c.args.file.now k.field-0 c.flat_parts-labels.result.0.items
    c.flat_parts-labels.result.1.items c.flat_parts-labels.result.2.items k.ensures.held
    c.flat_parts-labels.ensures.labels c.flat_parts-labels.ensures.chunks
    c.flat_parts-labels.ensures.series) k.ensures.read.consistent

pub invariant_of-result : goal.invariant_of-result
invariant_of-result g c =
    let k = c.in_ok-_layout in
    record { inside = keys_inside c.args.file.now k.field-0 k.ensures.held k.ensures.read }

pub invariant_of-result-2 : goal.invariant_of-result-2
invariant_of-result-2 g c =
    let k = c.in_ok-_layout in
    is_kept c.args.file.now k.field-0 c.flat_parts-labels.result.0.items
    c.flat_parts-labels.result.1.items c.flat_parts-labels.result.2.items c.in_ok-lists.lists
    k.ensures.held k.ensures.read c.flat_parts-labels.ensures.labels
    c.flat_parts-labels.ensures.chunks c.flat_parts-labels.ensures.series
    (rw c.deref.ensures.value at c.in_ok-lists.ensures)
