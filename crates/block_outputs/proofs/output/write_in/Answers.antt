use Rattle.std.proofs.Common.{refl}
use Rattle.block_outputs.proofs.Files.{block_written}
use Rattle.block_outputs.proofs.output.write_in.Goals as goal

pub returns : goal.returns
returns g c =
    let names = c.args.names.now in
    let bytes = c.in_ok-bytes in
    block_written g.D.Disk.did names.into.now c.args.values c.args.rows c.args.disk.now c.write_block.new.disk
    (record { parent = names.into; block = names.block; unfinished = names.unfinished })
    (record {
      meta = c.as_bytes.result;
      index = c.as_slice.result;
      chunks = c.as_slice-2.result;
      tombstones = c.as_slice-3.result;
    })
    c.args.range c.args.meta.now bytes.bytes.index.items bytes.bytes.tombstones.items
    bytes.bytes.chunks.items c.in_ok-write_block.ensures.ok c.requires.place refl c.min.ensures.range
    c.as_bytes.ensures.value c.as_slice.ensures.value c.as_slice-2.ensures.value
    c.as_slice-3.ensures.value c.requires.said c.requires.meaning
    c.requires.within
    (bytes.ensures.block c.args.range c.min.ensures.range c.requires.within)
