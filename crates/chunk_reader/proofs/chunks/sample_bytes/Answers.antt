use Rattle.std.proofs.Common.{sym, ap, ◌∙◌}
use Rattle.wire.specs.Reading.{uvarint_at}
use Rattle.chunk_reader.proofs.Stored.{taken, samples_behind}
use Rattle.chunk_reader.proofs.chunks.sample_bytes.Goals as goal

pub returns : goal.returns
returns c mint maxt samples x =
    let front = c.new-cut.ensures ∙ c.split_at.ensures.back in
    let one =
    ap uvarint_at (sym front)
    ∙ taken _ _ c.uvarint.result c.unwrap-len.result _ _ c.unwrap-len.ensures
    c.uvarint.ensures.exact in
    let two = taken _ _ c.bytes.result c.unwrap.result _ _ c.unwrap.ensures c.bytes.ensures.exact in
    let three =
    taken _ _ c.bytes-2.result c.unwrap-2.result _ _ c.unwrap-2.ensures c.bytes-2.ensures.exact in
    samples_behind c.args.file.now c.args.reference mint maxt samples _ _ _ _ _ _ x one two three
