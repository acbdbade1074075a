use Rattle.store_folder.specs.Blocks.{BlockFiles}
use Rattle.store_folder.proofs.OpenedBlocks.{exact_so, fails_so, ok_and, only_block, only_range, opened}
use Rattle.store_folder.proofs.blocks.open_files.Goals as goal

pub returns-in-Ok-clause-found : goal.returns-in-Ok-clause-found
returns-in-Ok-clause-found g c =
    let files : BlockFiles = record {
      meta = c.args.meta.now;
      index = c.args.index.now;
      chunks = c.args.chunks.items;
      tombstones = c.args.tombstones.now;
    } in
    ok_and c.open_by.result _ _ _
    (λ b is block. opened files c.in-Ok.range b c.in-Ok.ensures is block)
    c.open_by.ensures.range c.open_by.ensures.found

pub returns-in-Ok-clause-only : goal.returns-in-Ok-clause-only
returns-in-Ok-clause-only g c part s =
    let files : BlockFiles = record {
      meta = c.args.meta.now;
      index = c.args.index.now;
      chunks = c.args.chunks.items;
      tombstones = c.args.tombstones.now;
    } in
    only_block files c.in-Ok.range part c.open_by.result c.in-Ok.ensures c.open_by.ensures.range
    c.open_by.ensures.only s

pub returns-in-Err-clause-only : goal.returns-in-Err-clause-only
returns-in-Err-clause-only g c part s =
    let files : BlockFiles = record {
      meta = c.args.meta.now;
      index = c.args.index.now;
      chunks = c.args.chunks.items;
      tombstones = c.args.tombstones.now;
    } in
    only_range files part c.in-Err.error c.in-Err.ensures s

pub returns-in-Ok-clause-exact : goal.returns-in-Ok-clause-exact
returns-in-Ok-clause-exact g c =
    let files : BlockFiles = record {
      meta = c.args.meta.now;
      index = c.args.index.now;
      chunks = c.args.chunks.items;
      tombstones = c.args.tombstones.now;
    } in
    exact_so files c.in-Ok.range c.open_by.result c.in-Ok.ensures c.open_by.ensures.exact

pub returns-in-Err-clause-exact : goal.returns-in-Err-clause-exact
returns-in-Err-clause-exact g c =
    let files : BlockFiles = record {
      meta = c.args.meta.now;
      index = c.args.index.now;
      chunks = c.args.chunks.items;
      tombstones = c.args.tombstones.now;
    } in
    fails_so files c.in-Err.error c.in-Err.ensures
