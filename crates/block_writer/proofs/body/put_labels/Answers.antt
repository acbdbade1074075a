use Rattle.index_reader.specs.Seen.{bytes_of}
use Rattle.index_reader.specs.Spelled.{label_text}
use Rattle.block_writer.specs.EntryBodies.{numbers_of}
use Rattle.block_writer.proofs.Walking.{drop_at, flat_on}
use Rattle.block_writer.proofs.Building.{two_numbers}
use Rattle.block_writer.proofs.body.put_labels.Goals as goal

pub loop-i-preserved : goal.loop-i-preserved
loop-i-preserved c =
    flat_on (λ p. label_text (numbers_of (bytes_of c.args.symbols.now) p)) c.loop-i.out.items
    c.put_uvarint-in-loop-i-2.new.out.items c.args.labels.now c.loop-i.i
    (c.pair.result.0.now, c.pair.result.1.now) _
    (drop_at c.args.labels.now c.loop-i.i (c.pair.result.0.now, c.pair.result.1.now) c.pair.ensures)
    (two_numbers c.loop-i.out.items c.put_uvarint-in-loop-i.new.out.items
    c.put_uvarint-in-loop-i-2.new.out.items _ _ _ _ c.in_ok-put_uvarint-2.ensures.ok
    c.in_ok-put_uvarint-3.ensures.ok c.number_near-name_at.ensures c.number_near-value_at.ensures)
    c.loop-i.invariant
