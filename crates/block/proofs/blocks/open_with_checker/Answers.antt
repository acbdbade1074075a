use Rattle.std.specs.Prelude.{IfOk, ℤ}
use Rattle.std.proofs.Common.{Ok, sym, ap, subst, ◌∙◌, arith}
use Rattle.std.proofs.lemmas.Result.{err_from_is_err_and}
use Rattle.labels.specs.Parts.{Part}
use Rattle.index_reader.specs.Indexes.{Indexed}
use Rattle.block.specs.declared.files.Files.{Files}
use Rattle.block.specs.Blocks.{Shown, part_of_series, shown_of}
use Rattle.block.specs.Grammar.{IsBlock}
use Rattle.block.specs.Kept.{source_in}
use Rattle.block.specs.Packing.{IsOpened}
use Rattle.block.specs.Samples.{chunk_samples}
use Rattle.block.proofs.Packs.{opened_packed, part_packed}
use Rattle.block.proofs.Chunked.{sound_of}
use Rattle.block.proofs.Found.{block_spelled}
use Rattle.block.proofs.Refusals.{block_fails_index, block_fails_chunks, block_fails_stored}
use Rattle.block.proofs.Refusals.{block_fails_deleted, block_outside, block_opens}
use Rattle.index_reader.specs.Indexes.{IsConsistent}
use Rattle.index_reader.specs.Reading.Whole.{indexed_of}
use Rattle.index_reader.specs.Outcome as index_outcome
use Rattle.index_reader.specs.Spelled.{IsIndex}
use Rattle.index_reader.proofs.Pinned.{given}
use Rattle.block.proofs.blocks.open_with_checker.Goals as goal

pub returns-in_err-index-clause-exact : goal.returns-in_err-index-clause-exact
returns-in_err-index-clause-exact g c =
    let p = err_from_is_err_and c.from_residual.result c.from_residual.ensures.1 in
    rw (p.1, p.2) (block_fails_index c.args.range c.args.index.now c.args.chunks.items
    c.args.tombstones.now c.in_err-index.field-0.0 (subst (λ r. index_outcome.Gives (λ x. x) r
    (indexed_of c.args.index.now)) c.in_err-index.was (given c.args.index.now c.args.read
    (λ i. omega (arith, c.type_inv.index i)) c.requires.spelled c.requires.refused)))

pub returns-in_err-chunks-clause-exact : goal.returns-in_err-chunks-clause-exact
returns-in_err-chunks-clause-exact g c =
    let p =
    err_from_is_err_and c.from_residual-in_err-chunks.result
    c.from_residual-in_err-chunks.ensures.1 in
    rw (p.1, p.2) (block_fails_chunks c.args.range c.args.index.now c.args.chunks.items
    c.args.tombstones.now c.in_ok-index.index c.in_err-chunks.field-0.0
    (subst (λ r. index_outcome.Gives (λ x. x) r (indexed_of c.args.index.now)) c.in_ok-index.was
    (given c.args.index.now c.args.read
    (λ i. omega (arith, c.type_inv.index i)) c.requires.spelled c.requires.refused))
    c.in_err-chunks.ensures.exact)

pub returns-in_err-check_stored-clause-exact : goal.returns-in_err-check_stored-clause-exact
returns-in_err-check_stored-clause-exact g c =
    let p =
    err_from_is_err_and c.from_residual-in_err-check_stored.result
    c.from_residual-in_err-check_stored.ensures.1 in
    rw (p.1, p.2) (block_fails_stored c.args.range c.args.index.now c.args.chunks.items
    c.args.tombstones.now c.in_ok-index.index c.in_ok-chunks.chunks c.in_err-check_stored.field-0.0
    (subst (λ r. index_outcome.Gives (λ x. x) r (indexed_of c.args.index.now)) c.in_ok-index.was
    (given c.args.index.now c.args.read
    (λ i. omega (arith, c.type_inv.index i)) c.requires.spelled c.requires.refused))
    c.in_ok-chunks.ensures.exact
    c.in_err-check_stored.ensures.exact)

pub returns-in_err-deletions-clause-exact : goal.returns-in_err-deletions-clause-exact
returns-in_err-deletions-clause-exact g c =
    let p =
    err_from_is_err_and c.from_residual-in_err-deletions.result
    c.from_residual-in_err-deletions.ensures.1 in
    rw (p.1, p.2) (block_fails_deleted c.args.range c.args.index.now c.args.chunks.items
    c.args.tombstones.now c.in_ok-index.index c.in_ok-chunks.chunks c.in_err-deletions.field-0.0
    (subst (λ r. index_outcome.Gives (λ x. x) r (indexed_of c.args.index.now)) c.in_ok-index.was
    (given c.args.index.now c.args.read
    (λ i. omega (arith, c.type_inv.index i)) c.requires.spelled c.requires.refused))
    c.in_ok-chunks.ensures.exact
    c.in_ok-check_stored.ensures.exact c.in_err-deletions.ensures)

pub returns-then-not-are_inside-clause-exact : goal.returns-then-not-are_inside-clause-exact
returns-then-not-are_inside-clause-exact g c =
    let x = c.in_ok-deletions.ensures in
    block_outside c.args.range c.args.index.now c.args.chunks.items c.args.tombstones.now
    c.in_ok-index.index c.in_ok-chunks.chunks x.0
    (subst (λ r. index_outcome.Gives (λ x. x) r (indexed_of c.args.index.now)) c.in_ok-index.was
    (given c.args.index.now c.args.read
    (λ i. omega (arith, c.type_inv.index i)) c.requires.spelled c.requires.refused))
    c.in_ok-chunks.ensures.exact
    c.in_ok-check_stored.ensures.exact x.1 (sym c.are_inside.ensures ∙ c.if-not-are_inside.true)

pub invariant_of-result : goal.invariant_of-result
invariant_of-result g c =
    let sound = sound_of c.args.range c.args.index.now c.in_ok-chunks.chunks c.in_ok-index.index
    (subst (λ r. IfOk r IsConsistent) c.in_ok-index.was c.requires.consistent)
    (subst (λ r. IfOk r (IsIndex c.args.index.now)) c.in_ok-index.was c.requires.spelled)
    c.in_ok-check_stored.ensures.held c.in_ok-check_stored.ensures.few
    (sym c.are_inside.ensures ∙ c.if-not-are_inside.false) in
    let kept = c.in_ok-packed.packed in
    subst (λ (f : Files). IsOpened c.args.range f.starts.items f.packed f.index)
    (sym c.in_ok-files.ensures.ok) (opened_packed (chunk_samples c.in_ok-chunks.chunks)
    c.in_ok-index.index kept.starts.items kept.chunks c.in_ok-packed.ensures.pack c.args.range
    c.in_ok-packed.ensures.small sound)

pub returns-clause-exact : goal.returns-clause-exact
returns-clause-exact g c =
    let x = c.in_ok-deletions.ensures in
    let index = c.in_ok-index.index in
    let kept = c.in_ok-packed.packed in
    let e = block_opens c.args.range c.args.index.now c.args.chunks.items c.args.tombstones.now
    c.in_ok-index.index c.in_ok-chunks.chunks x.0 c.in_ok-deletions.deletions
    (subst (λ r. index_outcome.Gives (λ x. x) r (indexed_of c.args.index.now)) c.in_ok-index.was
    (given c.args.index.now c.args.read
    (λ i. omega (arith, c.type_inv.index i)) c.requires.spelled c.requires.refused))
    c.in_ok-chunks.ensures.exact
    c.in_ok-check_stored.ensures.exact x.1 x.2 (sym c.are_inside.ensures
    ∙ c.if-not-are_inside.false) in
    let same = part_packed (chunk_samples c.in_ok-chunks.chunks) index kept.starts.items kept.chunks
    c.in_ok-packed.ensures.pack c.in_ok-deletions.deletions in
    e
    ∙ ap (λ (part : Part). Ok (shown c.args.range part index)) (sym same)
    ∙ ap (λ (f : Files). Ok (shown_of c.args.range (source_in f) f.index
    c.in_ok-deletions.deletions)) (sym c.in_ok-files.ensures.ok)
  where
    shown : ℤ × ℤ → Part → Indexed → Shown
    shown range part index = record { range = range; part = part; pairs = index.pairs }

pub returns-clause-found : goal.returns-clause-found
returns-clause-found g c =
    let x = c.in_ok-deletions.ensures in
    let kept = c.in_ok-packed.packed in
    let spelled = block_spelled c.args.range c.args.index.now c.args.chunks.items
    c.args.tombstones.now c.in_ok-index.index c.in_ok-chunks.chunks x.0 c.in_ok-deletions.deletions
    (λ i. omega (arith, c.type_inv.tombstones i))
    (subst (λ r. IfOk r (IsIndex c.args.index.now)) c.in_ok-index.was c.requires.spelled)
    c.in_ok-chunks.ensures.exact c.in_ok-chunks.ensures.found c.in_ok-check_stored.ensures.held
    c.in_ok-check_stored.ensures.few x.1 x.2 (sym c.are_inside.ensures
    ∙ c.if-not-are_inside.false) in
    let same = part_packed (chunk_samples c.in_ok-chunks.chunks) c.in_ok-index.index
    kept.starts.items kept.chunks c.in_ok-packed.ensures.pack c.in_ok-deletions.deletions in
    subst (λ (f : Files). IsBlock c.args.range c.args.index.now c.args.chunks.items
    c.args.tombstones.now (part_of_series (source_in f) c.in_ok-deletions.deletions f.index.series))
    (sym c.in_ok-files.ensures.ok)
    (subst (λ (part : Part). IsBlock c.args.range c.args.index.now c.args.chunks.items
    c.args.tombstones.now part) (sym same) spelled)
