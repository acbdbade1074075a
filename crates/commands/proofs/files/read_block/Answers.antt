use Rattle.std.proofs.Common.{ℕ, [], ◌∷◌, Vec, Global, Result, refl}
use Rattle.std.proofs.lemmas.Result.{err_from_is_err_and, IfOk-at_ok, IfErr-at_err}
use Rattle.index_reader.specs.Indexes.{Indexed}
use Rattle.index_reader.specs.declared.error.IndexError.{IndexError}
use Rattle.commands.specs.Indexing.{IsOpened}
use Rattle.commands.specs.Reading.{IsRead, IsFileFault}
use Rattle.commands.specs.declared.files.FileName.TheVariants.{Meta, Index, Chunks, Tombstones}
use Rattle.commands.proofs.FirstUnread.{found, fault_after}
use Rattle.commands.proofs.files.read_block.Goals as goal

pub returns-in_err-meta-clause-err : goal.returns-in_err-meta-clause-err
returns-in_err-meta-clause-err g c =
    let p = err_from_is_err_and c.from_residual.result c.from_residual.ensures.1 in
    rw (p.1, p.2)
    (fault_after _ _ [] Meta (Index ∷ Chunks ∷ Tombstones ∷ []) refl tt _ c.in_err-meta.ensures.err)

pub returns-in_err-index-clause-err : goal.returns-in_err-index-clause-err
returns-in_err-index-clause-err g c =
    let reads = g.F.ReadFiles.may_read c.args.files.now in
    let directory = c.args.directory.now in
    let p =
    err_from_is_err_and c.from_residual-in_err-index.result
    c.from_residual-in_err-index.ensures.1 in
    rw (p.1, p.2)
    (fault_after _ _ (Meta ∷ []) Index (Chunks ∷ Tombstones ∷ []) refl
    (found _ _ _ _ c.in_ok-meta.ensures.ok, tt) _
    (IfErr-at_err (IsFileFault reads directory Index) c.in_err-index.was
    c.join-chunks.ensures.second.2))

pub returns-in_err-chunks-clause-err : goal.returns-in_err-chunks-clause-err
returns-in_err-chunks-clause-err g c =
    let reads = g.F.ReadFiles.may_read c.args.files.now in
    let directory = c.args.directory.now in
    let index =
    IfOk-at_ok (λ (read : Vec ℕ Global × Result Indexed IndexError). IsRead reads directory Index
    read.0.items) c.in_ok-index.was c.join-chunks.ensures.second.0 in
    let p =
    err_from_is_err_and c.from_residual-in_err-chunks.result
    c.from_residual-in_err-chunks.ensures.1 in
    rw (p.1, p.2)
    (fault_after _ _ (Meta ∷ Index ∷ []) Chunks (Tombstones ∷ []) refl
    (found _ _ _ _ c.in_ok-meta.ensures.ok, (found reads directory Index _ index, tt)) _
    (IfErr-at_err (IsFileFault reads directory Chunks) c.in_err-chunks.was
    c.join-chunks.ensures.first.1))

pub returns-in_err-tombstones-clause-err : goal.returns-in_err-tombstones-clause-err
returns-in_err-tombstones-clause-err g c =
    let reads = g.F.ReadFiles.may_read c.args.files.now in
    let directory = c.args.directory.now in
    let index =
    IfOk-at_ok (λ (read : Vec ℕ Global × Result Indexed IndexError). IsRead reads directory Index
    read.0.items) c.in_ok-index.was c.join-chunks.ensures.second.0 in
    let chunks =
    IfOk-at_ok (λ (bytes : Vec ℕ Global). IsRead reads directory Chunks bytes.items)
    c.in_ok-chunks.was c.join-chunks.ensures.first.0 in
    let p =
    err_from_is_err_and c.from_residual-in_err-tombstones.result
    c.from_residual-in_err-tombstones.ensures.1 in
    rw (p.1, p.2)
    (fault_after _ _ (Meta ∷ Index ∷ Chunks ∷ []) Tombstones [] refl (
      found _ _ _ _ c.in_ok-meta.ensures.ok,
      (found reads directory Index _ index, (found reads directory Chunks _ chunks, tt)),
    ) _ c.in_err-tombstones.ensures.err)

pub returns-clause-ok : goal.returns-clause-ok
returns-clause-ok g c =
    let reads = g.F.ReadFiles.may_read c.args.files.now in
    let directory = c.args.directory.now in
    record {
      meta = c.in_ok-meta.ensures.ok;
      index =
          IfOk-at_ok (λ (read : Vec ℕ Global × Result Indexed IndexError). IsRead reads directory
          Index read.0.items) c.in_ok-index.was c.join-chunks.ensures.second.0;
      chunks =
          IfOk-at_ok (λ (bytes : Vec ℕ Global). IsRead reads directory Chunks bytes.items)
          c.in_ok-chunks.was c.join-chunks.ensures.first.0;
      tombstones = c.in_ok-tombstones.ensures.ok;
    }

pub returns-clause-opened : goal.returns-clause-opened
returns-clause-opened g c =
    IfOk-at_ok (λ (read : Vec ℕ Global × Result Indexed IndexError). IsOpened read.0.items read.1)
    c.in_ok-index.was c.join-chunks.ensures.second.1
