use Rattle.std.proofs.Common.{[], ◌∷◌, refl}
use Rattle.std.proofs.lemmas.Result.{err_from_is_err_and}
use Rattle.audit_command.specs.declared.files.FileName.TheVariants.{Index, Chunks, Tombstones}
use Rattle.audit_command.proofs.FirstUnread.{found, fault_after}
use Rattle.audit_command.proofs.files.read_block.Goals as goal

pub returns-in_err-index-clause-err : goal.returns-in_err-index-clause-err
returns-in_err-index-clause-err g c =
    let p = err_from_is_err_and c.from_residual.result c.from_residual.ensures.1 in
    rw (p.1, p.2)
    (fault_after _ _ [] Index (Chunks ∷ Tombstones ∷ []) refl tt _ c.in_err-index.ensures.err)

pub returns-in_err-chunks-clause-err : goal.returns-in_err-chunks-clause-err
returns-in_err-chunks-clause-err g c =
    let p = err_from_is_err_and c.from_residual-in_err-chunks.result c.from_residual-in_err-chunks.ensures.1 in
    rw (p.1, p.2)
    (fault_after _ _ (Index ∷ []) Chunks (Tombstones ∷ []) refl (found _ _ _ _ c.in_ok-index.ensures.ok, tt) _ c.in_err-chunks.ensures.err)

pub returns-in_err-tombstones-clause-err : goal.returns-in_err-tombstones-clause-err
returns-in_err-tombstones-clause-err g c =
    let p = err_from_is_err_and c.from_residual-in_err-tombstones.result c.from_residual-in_err-tombstones.ensures.1 in
    rw (p.1, p.2)
    (fault_after _ _ (Index ∷ Chunks ∷ []) Tombstones [] refl
    (found _ _ _ _ c.in_ok-index.ensures.ok, (found _ _ _ _ c.in_ok-chunks.ensures.ok, tt)) _ c.in_err-tombstones.ensures.err)

pub returns-clause-ok : goal.returns-clause-ok
returns-clause-ok g c = record {
  index = c.in_ok-index.ensures.ok;
  chunks = c.in_ok-chunks.ensures.ok;
  tombstones = c.in_ok-tombstones.ensures.ok;
}
