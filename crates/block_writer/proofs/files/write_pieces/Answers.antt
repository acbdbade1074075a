use Rattle.std.proofs.Common.{List, inl, ap, subst, ◌∙◌, length, arith}
use Rattle.labels.specs.Rows.{Row}
use Rattle.block_writer.specs.Typed.{Have64Bits}
use Rattle.block_writer.specs.Writing.{chunks_text}
use Rattle.block_writer.proofs.WrittenBlock.{written_block}
use Rattle.block_writer.proofs.files.write_pieces.Goals as goal

pub index_file-requires : goal.index_file-requires
index_file-requires c = omega (arith, c.in-Some.ensures.exact, c.in-Some.ensures.short)

pub returns-in_default-clause-reason : goal.returns-in_default-clause-reason
returns-in_default-clause-reason c = inl c.in_default.ensures.long

pub returns-clause-chunks : goal.returns-clause-chunks
returns-clause-chunks c =
    c.in_ok-chunks.ensures.spelled ∙ ap (λ (rs : List Row). chunks_text rs) c.into_rows.ensures

pub returns-clause-block : goal.returns-clause-block
returns-clause-block c =
    let spelled = returns-clause-chunks c in
    λ range is_range within.
    written_block c.args.rows c.in_ok-index.index.items _ c.in_ok-undeleted.undeleted.items
    c.in_ok-index.ensures.part c.in_ok-index.ensures.typed
    (subst Have64Bits c.into_rows.ensures c.in_ok-chunks.ensures.typed)
    c.in_ok-index.ensures.written spelled c.in_ok-undeleted.ensures c.in_ok-index.ensures.short
    (omega (arith, ap length spelled, c.in-Some.ensures.exact, c.in-Some.ensures.short)) range
    is_range within
