use Rattle.std.proofs.Common.{◌++◌, List, ℤ, [], ◌∷◌, ap, subst, ◌∙◌, arith}
use Rattle.std.specs.List.{All}
use Rattle.labels.specs.Rows.{Row}
use Rattle.block_writer.specs.Typed.{IsOf64Bits, Have64Bits}
use Rattle.block_writer.specs.Writing.{series_text}
use Rattle.block_writer.proofs.Spelled.{one_more}
use Rattle.block_writer.proofs.Taken.{all_and, all_of_them}
use Rattle.block_writer.proofs.chunks.chunks_file.Goals as goal

pub loop-row-preserved : goal.loop-row-preserved
loop-row-preserved c =
    let rows = c.rows-row-items.result.now in
    let i = c.loop-row.row-index in
    let row : Row = c.row-item.result in
    record {
      text =
          one_more (λ (r : Row). series_text r.1) (0x85 ∷ 0xBD ∷ 0x40 ∷ 0xDD ∷ 1 ∷ 0 ∷ 0 ∷ 0 ∷ [])
          c.loop-row.file.items _ rows i row (omega arith) c.row-item.is c.loop-row.invariant.text
          (c.in_ok-put_series.ensures.text
          ∙ ap (λ (ss : List (ℤ × ℤ)). c.loop-row.file.items ++ series_text ss) c.samples.ensures);
      typed =
          all_and (λ (r : Row). All IsOf64Bits r.1) rows i row (omega arith) c.row-item.is
          c.loop-row.invariant.typed
          (subst (All IsOf64Bits) c.samples.ensures c.in_ok-put_series.ensures.typed);
    }

pub returns-clause-typed : goal.returns-clause-typed
returns-clause-typed c =
    subst Have64Bits c.rows-row-items.ensures.shown (all_of_them (λ (r : Row). All IsOf64Bits r.1)
    c.rows-row-items.result.now c.loop-row.row-index (omega arith) c.loop-row.invariant.typed)
