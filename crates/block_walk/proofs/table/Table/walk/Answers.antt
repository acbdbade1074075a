use Rattle.std.proofs.Common.{subst, arith}
use Rattle.wire.specs.Spelling.{IsBytes}
use Rattle.block_walk.specs.BlockFiles.Reading.{walked_of}
use Rattle.block_walk.specs.BlockFiles.Checks.{Files}
use Rattle.block_walk.proofs.BlockFiles.FilesFirst.{first_failing}
use Rattle.block_walk.proofs.BlockFiles.Only.{walk_again}
use Rattle.block_walk.proofs.BlockFiles.Rows.{is_only}
use Rattle.block_walk.proofs.table.Table.walk.Goals as goal

pub returns-clause-only : goal.returns-clause-only
returns-clause-only c part w =
    let index = c.args.index.now in
    let tombstones = c.args.tombstones.now in
    is_only part (walked_of index c.args.chunks.items tombstones) c.walk_table.result
    c.walk_table.ensures.exact (walk_again index c.args.chunks.items tombstones part (λ i. omega (
      arith,
      c.type_inv.index i,
    )) (λ i. omega (arith, c.type_inv.tombstones i)) w)

pub returns-clause-refused : goal.returns-clause-refused
returns-clause-refused c =
    let f : Files = record {
      index = c.args.index.now;
      chunks = c.args.chunks.items;
      tombstones = c.args.tombstones.now;
    } in
    first_failing f c.walk_table.result (λ i. omega (arith, c.type_inv.index i))
    (subst IsBytes c.as_slice.ensures.value c.are_bytes.ensures)
    (λ i. omega (arith, c.type_inv.tombstones i)) c.walk_table.ensures.exact
