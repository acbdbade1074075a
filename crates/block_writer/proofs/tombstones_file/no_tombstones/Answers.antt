use Rattle.std.proofs.Common.{ℕ, List, [], ◌∷◌, ◌++◌, ap, ◌∙◌}
use Rattle.block_writer.proofs.Nothing.{nothing_deleted}
use Rattle.block_writer.proofs.tombstones_file.no_tombstones.Goals as goal

pub returns : goal.returns
returns c =
    nothing_deleted _ (c.in_ok-put_bytes.ensures.ok
    ∙ ap (λ (xs : List ℕ). xs ++ 0x01 ∷ 0x30 ∷ 0xBA ∷ 0x30 ∷ 1 ∷ 0 ∷ 0 ∷ 0 ∷ 0 ∷ [])
    c.new-file.ensures.items)
