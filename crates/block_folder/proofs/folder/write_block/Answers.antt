use Rattle.std.proofs.Common.{◌∙◌}
use Rattle.block_folder.specs.declared.folder.Paths.{Paths}
use Rattle.block_folder.proofs.Crashes.{failed, written}
use Rattle.block_folder.proofs.folder.write_block.Goals as goal

pub returns-in-Ok-clause-ok : goal.returns-in-Ok-clause-ok
returns-in-Ok-clause-ok g c =
    let paths : Paths =
    record {
      chunks_folder = c.as_str.result;
      chunks = c.as_str-2.result;
      index = c.as_str-3.result;
      tombstones = c.as_str-4.result;
      meta = c.as_str-5.result;
    } in
    written g.D.Disk.did c.args.place paths c.args.files c.args.disk.now c.write_at.new.disk
    (record {
      chunks_folder = c.as_str.ensures.value ∙ c.in_ok-chunks_folder.ensures;
      chunks = c.as_str-2.ensures.value ∙ c.in_ok-chunks.ensures;
      index = c.as_str-3.ensures.value ∙ c.in_ok-index.ensures;
      tombstones = c.as_str-4.ensures.value ∙ c.in_ok-tombstones.ensures;
      meta = c.as_str-5.ensures.value ∙ c.in_ok-meta.ensures;
    }) c.in-Ok.ensures.ok

pub returns-clause-err : goal.returns-clause-err
returns-clause-err g c =
    let paths : Paths =
    record {
      chunks_folder = c.as_str.result;
      chunks = c.as_str-2.result;
      index = c.as_str-3.result;
      tombstones = c.as_str-4.result;
      meta = c.as_str-5.result;
    } in
    failed g.D.Disk.did c.args.place paths c.args.files c.args.disk.now c.write_at.new.disk
    (record {
      chunks_folder = c.as_str.ensures.value ∙ c.in_ok-chunks_folder.ensures;
      chunks = c.as_str-2.ensures.value ∙ c.in_ok-chunks.ensures;
      index = c.as_str-3.ensures.value ∙ c.in_ok-index.ensures;
      tombstones = c.as_str-4.ensures.value ∙ c.in_ok-tombstones.ensures;
      meta = c.as_str-5.ensures.value ∙ c.in_ok-meta.ensures;
    }) c.in-Err.ensures.err
